-- The builder as code asks it: where it restarts, whether it is empty, what a row shares, each by its own test; how long a row can be; and what an
-- answer of the fit question or of adding tells of the state.
use Rattle.std.specs.Prelude.{ℕ, ◌+◌, ◌%◌, ◌≤◌, ◌≡◌, Bool, true, false, List, eqb, length, drop}
use Rattle.std.proofs.Math.Path.{refl}
use Rattle.std.proofs.Common.{arith}
use Rattle.layout.specs.Res.{ok}
use Rattle.layout.specs.Key.{Key, common}
use Rattle.layout.specs.Row.{Fields, value_of, if_so, present, row_bytes, length_tests}
use Rattle.layout.specs.Block.{is_restart, share_of, laid_row}
use Rattle.layout.specs.Builder.{Builder, has_no_rows, state_tests, would_fit, add}
use Rattle.layout.proofs.Laws.Res.{bind-then}
use Rattle.layout.proofs.Laws.Builder.{StateOk, state-tells}
use Rattle.layout.proofs.Laws.Row.{length-row_bytes}
use Rattle.layout.proofs.Laws.Varint.{varint-few}

pub restart-rule : (interval i : ℕ) → eqb (i % interval) 0 ≡ is_restart interval i
unfolding is_restart
restart-rule interval i = refl

pub empty-rule : (b : Builder) → eqb b.counter 0 ≡ has_no_rows b
unfolding has_no_rows
empty-rule b = refl

module _ (before key : Key) where
  pub share-restart : 0 ≡ share_of true before key
  unfolding share_of
  share-restart = refl

  pub share-plain : common before key ≡ share_of false before key
  unfolding share_of
  share-plain = refl

  pub laid_row-bytes : (restart : Bool) (f : Fields) → row_bytes (share_of restart before key) (drop (share_of restart before key) key) f ≡ laid_row restart before key f
  unfolding laid_row
  laid_row-bytes restart f = refl

-- no row is longer: three lengths of at most 5 bytes, suffix, value, 9, two times
pub row_bytes-most : (shared : ℕ) (suffix : List ℕ) (f : Fields) → length (row_bytes shared suffix f) ≤ 40 + length suffix + length (value_of f)
row_bytes-most shared suffix f =
    omega (
      arith,
      length-row_bytes shared suffix f,
      (varint-few shared).1,
      (varint-few (length suffix)).1,
      (varint-few (length (value_of f))).1,
      eight (present f.expire),
      eight (present f.create),
    )
  where
    eight : (t : Bool) → if_so t 8 ≤ 8
    eight true = omega arith
    eight false = omega arith

module _ (b : Builder) (data_len places_len : ℕ) (key : Key) (f : Fields) where
  pub fit-tells : would_fit b data_len places_len key f ≡ ok tt → StateOk b data_len places_len × (length_tests (length key) (length (value_of f)) ≡ ok tt)
  unfolding would_fit
  fit-tells e =
      bind-then (state_tests b data_len places_len) _ tt e λ u s e₁.
      bind-then (length_tests (length key) (length (value_of f))) _ tt e₁ λ v l e₂.
      (state-tells b data_len places_len u s, l)

  pub add_fit : (b' : Builder) → add b data_len places_len key f ≡ ok b' → would_fit b data_len places_len key f ≡ ok tt
  unfolding add
  add_fit b' e = bind-then {C = would_fit b data_len places_len key f ≡ ok tt} (would_fit b data_len places_len key f) _ b' e λ u w e₁. w
