-- The builder of the earlier format by its tests, as code meets them, in whatever order where all give one refusal; and what an answer of the fit question or of adding tells.
use Rattle.std.specs.Prelude.{ℕ, ◌+◌, ◌*◌, ◌<◌, ◌≤◌, ◌≡◌, refl, Bool, true, not, ◌&&◌, ◌||◌, ◌⊎◌, leb, eqb, drop}
use Rattle.std.proofs.Math.Bool.{false}
use Rattle.std.proofs.Math.Logic.{⊎_elim}
use Rattle.std.proofs.Common.{inl, inr, arith}
use Rattle.std.proofs.Math.Dec.{ltb}
use Rattle.std.proofs.Math.ListN.{length}
use borrow.Author.Tests.{lt-ltb, le-ltb, lt-leb, eq-eqb, ne_eqb, ltb-false, leb-false}
use Rattle.layout.specs.Res.{Res, ok, refuse, bind, guard}
use Rattle.layout.specs.Limits.{max_key, max_value, max_block, max_offset, max_restarts}
use Rattle.layout.specs.Key.{Key, common}
use Rattle.layout.specs.Row.{Kind, value, tombstone, merge, Fields, kept_length, value_of, if_so, key_length_tests, length_tests}
use Rattle.layout.proofs.Laws.Res.{bind-then, guard-then, ok-inj, eqb-cases}
use Rattle.layout.proofs.Laws.Tells.{key_length_tests-tells}
use Rattle.layout_v1.specs.Row.{least_row, value_size, row_bytes, row_size}
use Rattle.layout_v1.specs.Block.{laid_row}
use Rattle.layout_v1.specs.Builder.{Builder, fresh, new_builder, has_no_rows, state_tests, shared_key, next_row, present_size, fits, would_fit, grown, add, build}

-- ---- new

module _ (size : ℕ) where
  pub new_large : max_block < size → new_builder size ≡ refuse 8
  unfolding new_builder
  new_large h = rw (lt-ltb max_block size h)

  pub new-good : size ≤ max_block → new_builder size ≡ ok (fresh size)
  unfolding new_builder
  new-good h = rw (le-ltb max_block size h)

pub empty-rule : (b : Builder) → eqb b.rows 0 ≡ has_no_rows b
unfolding has_no_rows
empty-rule b = refl

-- ---- state 18: whichever test fails, in whatever order they are made

pub record StateOk (b : Builder) (data_len places_len : ℕ) : Type 0 where
  pub block : b.block_size ≤ max_block
  pub in_data : b.used ≤ data_len
  pub in_places : b.rows ≤ places_len
  pub allowed : b.rows ≤ max_restarts
  pub least : least_row * b.rows ≤ b.used
  pub no_rows : b.rows ≡ 0 → b.used ≡ 0
  pub first_fits : b.first_key_len ≤ max_key

-- a test of 18 adds no other answer
only : (t : Bool) {x : Res (Unit {0})} → (x ≡ ok tt) ⊎ (x ≡ refuse 18) → (guard t 18 x ≡ ok tt) ⊎ (guard t 18 x ≡ refuse 18)
only true e = inr refl
only false e = e

module _ (b : Builder) (data_len places_len : ℕ) where
  pub state-good : StateOk b data_len places_len → state_tests b data_len places_len ≡ ok tt
  unfolding state_tests
  state-good s =
      rw (
        le-ltb max_block b.block_size s.block,
        le-ltb data_len b.used s.in_data,
        le-ltb places_len b.rows s.in_places,
        le-ltb max_restarts b.rows s.allowed,
        le-ltb b.used (least_row * b.rows) s.least,
        nothing,
        le-ltb max_key b.first_key_len s.first_fits,
      )
    where
      nothing : (eqb b.rows 0 && ltb 0 b.used) ≡ false
      nothing = ⊎_elim (λ t. rw t.0 (le-ltb 0 b.used (omega (arith, s.no_rows t.1)))) (λ t. rw t.0) (eqb-cases b.rows 0)

  pub state-tells : (u : Unit {0}) → state_tests b data_len places_len ≡ ok u → StateOk b data_len places_len
  unfolding state_tests
  state-tells u e =
      guard-then (ltb max_block b.block_size) 18 _ u e λ t₁ e₁.
      guard-then (ltb data_len b.used) 18 _ u e₁ λ t₂ e₂.
      guard-then (ltb places_len b.rows) 18 _ u e₂ λ t₃ e₃.
      guard-then (ltb max_restarts b.rows) 18 _ u e₃ λ t₄ e₄.
      guard-then (ltb b.used (least_row * b.rows)) 18 _ u e₄ λ t₅ e₅.
      guard-then (eqb b.rows 0 && ltb 0 b.used) 18 _ u e₅ λ t₆ e₆.
      guard-then (ltb max_key b.first_key_len) 18 _ u e₆ λ t₇ e₇.
      record {
        block = ltb-false max_block b.block_size t₁;
        in_data = ltb-false data_len b.used t₂;
        in_places = ltb-false places_len b.rows t₃;
        allowed = ltb-false max_restarts b.rows t₄;
        least = ltb-false b.used (least_row * b.rows) t₅;
        no_rows = λ z. let q : ltb 0 b.used ≡ false = rw (eq-eqb b.rows 0 z) at t₆ in omega (arith, ltb-false 0 b.used q);
        first_fits = ltb-false max_key b.first_key_len t₇;
      }

  either : (state_tests b data_len places_len ≡ ok tt) ⊎ (state_tests b data_len places_len ≡ refuse 18)
  unfolding state_tests
  either =
      only (ltb max_block b.block_size)
      (only (ltb data_len b.used)
      (only (ltb places_len b.rows)
      (only (ltb max_restarts b.rows)
      (only (ltb b.used (least_row * b.rows))
      (only (eqb b.rows 0 && ltb 0 b.used)
      (only (ltb max_key b.first_key_len) (inl refl)))))))

  -- a state that is not right answers 18
  pub state_bad : (StateOk b data_len places_len → ⊥) → state_tests b data_len places_len ≡ refuse 18
  state_bad h = ⊎_elim (λ e. absurd (h (state-tells tt e))) (λ e. e) either

-- ---- a row's share, and the fit question

-- row 0 shares nothing, any other its common prefix with the first key
module _ (b : Builder) where
  pub shared-none : (key : Key) → b.rows ≡ 0 → common (shared_key b) key ≡ 0
  unfolding common
  shared-none key z = rw (eq-eqb b.rows 0 z)

  pub shared-first : (b.rows ≡ 0 → ⊥) → shared_key b ≡ b.the_first_key
  shared-first h = rw (ne_eqb b.rows 0 h)

-- no row is longer: two lengths, suffix, 9, two times, the value's length and the value
pub row_size-most : (suffix_len : ℕ) (k : Kind) (offered : ℕ) (e c : Bool) → row_size suffix_len k offered e c ≤ 33 + suffix_len + kept_length k offered
unfolding row_size
row_size-most suffix_len k offered e c = omega (arith, eight e, eight c, held k)
  where
    eight : (t : Bool) → if_so t 8 ≤ 8
    eight true = omega arith
    eight false = omega arith

    held : (k : Kind) → value_size k offered ≤ 4 + kept_length k offered
    held value = omega arith
    held tombstone = omega arith
    held merge = omega arith

pub laid_row-bytes : (first key : Key) (f : Fields) → row_bytes (common first key) (drop (common first key) key) f ≡ laid_row first key f
unfolding laid_row
laid_row-bytes first key f = refl

module _ (b : Builder) (key : Key) (f : Fields) where
  pub fits-rule : {size : ℕ} → size ≡ present_size b + length (next_row b key f) → (eqb b.rows 0 || leb size b.block_size) ≡ fits b key f
  unfolding fits
  fits-rule e = rw e

  -- rows past the block size leave no room for another
  pub fits-past : (b.rows ≡ 0 → b.used ≡ 0) → b.block_size < b.used → fits b key f ≡ false
  unfolding fits
  fits-past none h =
      rw (lt-leb (present_size b + length (next_row b key f)) b.block_size (omega arith), ne_eqb b.rows 0 (λ z. absurd (omega (arith, none z))))

module _ (b : Builder) (data_len places_len : ℕ) (key : Key) (f : Fields) where
  -- by its tests: after one that refuses the others may be any
  pub fit-by : {state lengths : Res (Unit {0})} {fit : Bool} → state_tests b data_len places_len ≡ state → length_tests (length key) (length (value_of f)) ≡ lengths → fits b key f ≡ fit
      → would_fit b data_len places_len key f ≡ (bind state λ _. bind lengths λ _. guard (not fit) 4 (ok tt))
  unfolding would_fit
  fit-by e₁ e₂ e₃ = rw (e₁, e₂, e₃)

  pub fit-tells : (u : Unit {0}) → would_fit b data_len places_len key f ≡ ok u → StateOk b data_len places_len × (length_tests (length key) (length (value_of f)) ≡ ok tt)
  unfolding would_fit
  fit-tells u e =
      bind-then (state_tests b data_len places_len) _ u e λ u₁ s e₁.
      bind-then (length_tests (length key) (length (value_of f))) _ u e₁ λ u₂ l e₂.
      (state-tells b data_len places_len u₁ s, l)

-- ---- adding

-- what an accepted row passed
pub record Accepted (b : Builder) (data_len places_len : ℕ) (key : Key) (f : Fields) (b' : Builder) : Type 0 where
  pub is : grown b key f ≡ b'
  pub state : StateOk b data_len places_len
  pub tested : length_tests (length key) (length (value_of f)) ≡ ok tt
  pub key-some : 1 ≤ length key
  pub key_fits : length key ≤ max_key
  pub value-fits : length (value_of f) ≤ max_value
  pub near : b.used ≤ max_offset
  pub room : present_size b + length (next_row b key f) + 2 ≤ data_len
  pub place : b.rows < places_len

module _ (b : Builder) (data_len places_len : ℕ) (key : Key) (f : Fields) where
  -- by its tests: after one that refuses the others may be any
  pub add-by : {fit : Res (Unit {0})} {far short full : Bool} → would_fit b data_len places_len key f ≡ fit → ltb max_offset b.used ≡ far
      → ltb data_len (present_size b + length (next_row b key f) + 2) ≡ short → leb places_len b.rows ≡ full
      → add b data_len places_len key f ≡ (bind fit λ _. guard far 5 (guard short 6 (guard full 6 (ok (grown b key f)))))
  unfolding add
  add-by e₁ e₂ e₃ e₄ = rw (e₁, e₂, e₃, e₄)

  pub add-tells : (b' : Builder) → add b data_len places_len key f ≡ ok b' → Accepted b data_len places_len key f b'
  unfolding add length_tests
  add-tells b' e =
      bind-then (would_fit b data_len places_len key f) _ b' e λ u w e₁.
      guard-then (ltb max_offset b.used) 5 _ b' e₁ λ t₁ e₂.
      guard-then (ltb data_len (present_size b + length (next_row b key f) + 2)) 6 _ b' e₂ λ t₂ e₃.
      guard-then (leb places_len b.rows) 6 _ b' e₃ λ t₃ e₄.
      let o = fit-tells b data_len places_len key f u w in
      bind-then (key_length_tests (length key)) _ tt o.1 λ u₁ w₁ w₂.
      guard-then (ltb max_value (length (value_of f))) 3 _ tt w₂ λ t₄ w₃.
      let k = key_length_tests-tells (length key) u₁ w₁ in
      record {
        is = ok-inj e₄;
        state = o.0;
        tested = o.1;
        key-some = k.0;
        key_fits = k.1;
        value-fits = ltb-false max_value (length (value_of f)) t₄;
        near = ltb-false max_offset b.used t₁;
        room = ltb-false data_len (present_size b + length (next_row b key f) + 2) t₂;
        place = leb-false places_len b.rows t₃;
      }

-- ---- building

pub build-by : (b : Builder) (data_len places_len : ℕ) {state : Res (Unit {0})} {none short : Bool} → state_tests b data_len places_len ≡ state → eqb b.rows 0 ≡ none
    → ltb data_len (present_size b) ≡ short → build b data_len places_len ≡ (bind state λ _. guard none 7 (guard short 6 (ok (present_size b))))
unfolding build
build-by b data_len places_len e₁ e₂ e₃ = rw (e₁, e₂, e₃)
