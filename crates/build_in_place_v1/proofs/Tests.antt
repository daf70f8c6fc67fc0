-- The tests of the builder's code, exit by exit, by what was met on the way: of a row's fit, of its adding.
-- A row is known by what was found of it: its share is the definition's, so share and suffix make its key, its size is the count of the bytes that are laid, and the sum that is
-- compared is the present size with them. Adding goes on from there with the tests of 5 and 6 alone.
use Prim.Native.Nat.{ℕ, ◌+◌, ◌*◌, ◌≤◌, ◌<◌}
use mathlib.Core.Path.{◌≡◌, refl, ap, sym, ◌∙◌}
use mathlib.Core.Bool.{true, false}
use native.Mathlib.Omega.{arith}
use lib.Dec.{ltb}
use lib.ListN.{length, drop, length-drop}
use borrow.Author.Tests.{lt-ltb, le-ltb, le-leb, lt-leb, eq-eqb, ne_eqb}
use Rattle.std.specs.Prelude.{Result, Ok, IsErrAnd}
use Rattle.std.proofs.lemmas.Result.{err_from_is_err_and}
use Rattle.layout.specs.Res.{Res, ok, refuse, whether}
use Rattle.layout.specs.Key.{Key, common}
use Rattle.layout.specs.Limits.{max_key, max_offset, max_value}
use Rattle.layout.specs.Row.{Fields, value_of, present, kept_length, length_tests}
use Rattle.layout.proofs.Laws.Key.{common-right}
use Rattle.layout.proofs.Laws.Row.{length-kept}
use Rattle.layout.specs.Laws.RowWrite.{Tested}
use Rattle.layout_v1.specs.Row.{row_bytes, row_size}
use Rattle.layout_v1.specs.Builder.{Builder, state_tests, shared_key, next_row, fits, would_fit, add}
use Rattle.layout_v1.proofs.Laws.Builder.{state-tells, laid_row-bytes, row_size-most, fits-rule, fits-past, fit-by, add-by}
use Rattle.layout_v1.proofs.Laws.RowWrites.{size_of, size-refused, size-tells, size-bytes}
use Rattle.basics.specs.Number.{number}
use Rattle.basics.specs.declared.Refusal.{Refusal}
use Rattle.build_in_place_v1.specs.declared.Planned.{Planned}
use Rattle.build_in_place_v1.specs.Plan.{Planning}

-- no row has more bytes: two lengths, number and flags, two times, the value's length, the key, the value
abbrev pub most_row : ℕ
most_row = 33 + max_key + max_value

-- share and suffix make the key
pub share-whole : (first key : Key) {shared : ℕ} → shared ≡ common first key → (shared ≤ length key) × (shared + length (drop shared key) ≡ length key)
share-whole first key {shared} e = (omega (arith, common-right first key), omega (arith, common-right first key, length-drop shared key))

-- ---- a row that is tested: the fit question

-- what is known of a row once its size is answered
pub record Measured (b : Builder) (data_len places_len : ℕ) (key : Key) (f : Fields) (shared : ℕ) (size : Res ℕ) : Type 0 where
  pub state : state_tests b data_len places_len ≡ ok tt
  pub share : shared ≡ common (shared_key b) key
  pub size_is : size_of shared (drop shared key) f ≡ size

module _ (b : Builder) (data_len places_len : ℕ) (key : Key) (f : Fields) {shared : ℕ} {size : Res ℕ} (m : Measured b data_len places_len key f shared size) where
  whole : shared + length (drop shared key) ≡ length key
  whole = (share-whole (shared_key b) key m.share).1

  pub plan_unsized : {n : ℕ} → size ≡ refuse n → would_fit b data_len places_len key f ≡ refuse n
  plan_unsized {n} q =
      let t = size-refused _ _ _ _ _ _ (m.size_is ∙ q) in
      let l : length_tests (length key) (length (value_of f)) ≡ refuse n = rw (← whole, length-kept f.kind f.val) t in
      fit-by b data_len places_len key f m.state l refl

  module _ {n : ℕ} (q : size ≡ ok n) where
    abbrev answered : ℕ
    answered = row_size (length (drop shared key)) f.kind (length f.val) (present f.expire) (present f.create)

    tells : Tested (shared + length (drop shared key)) (kept_length f.kind (length f.val)) answered n
    tells = size-tells _ _ _ _ _ _ (m.size_is ∙ q)

    tested : length_tests (length key) (length (value_of f)) ≡ ok tt
    tested = rw (← whole, length-kept f.kind f.val) tells.tested

    row_is_lem : n ≡ length (next_row b key f)
    row_is_lem =
        let row : row_bytes shared (drop shared key) f ≡ next_row b key f = rw m.share (laid_row-bytes (shared_key b) key f) in
        size-bytes shared (drop shared key) f (m.size_is ∙ q) ∙ ap length row

    -- no sum with it wraps
    pub size_small : n ≤ most_row
    size_small =
        omega (arith, tells.size, row_size-most (length (drop shared key)) f.kind (length f.val) (present f.expire) (present f.create), tells.key-small, tells.value-small)

    pub plan_past : b.block_size < b.used → would_fit b data_len places_len key f ≡ refuse 4
    plan_past h =
        fit-by b data_len places_len key f m.state tested (fits-past b key f (state-tells b data_len places_len tt m.state).no_rows h)

    module _ {now : ℕ} (is : now ≡ b.used + 2 * b.rows + 2) where
      with_row : now + n ≡ b.used + 2 * b.rows + 2 + length (next_row b key f)
      with_row = omega (arith, row_is_lem)

      fitting : fits b key f ≡ true → Planning (would_fit b data_len places_len key f) b key f (Ok (record { shared = shared; size = now + n + 2 }))
      fitting t = (fit-by b data_len places_len key f m.state tested t, m.share, ap (λ (k : ℕ). k + 2) with_row)

      -- an empty block accepts any row
      pub plan_first : b.rows ≡ 0 → Planning (would_fit b data_len places_len key f) b key f (Ok (record { shared = shared; size = now + n + 2 }))
      plan_first z = fitting (sym (fits-rule b key f with_row) ∙ rw (eq-eqb b.rows 0 z))

      pub plan_fits : (b.rows ≡ 0 → ⊥) → now + n ≤ b.block_size → Planning (would_fit b data_len places_len key f) b key f (Ok (record { shared = shared; size = now + n + 2 }))
      plan_fits z h = fitting (sym (fits-rule b key f with_row) ∙ rw (ne_eqb b.rows 0 z, le-leb (now + n) b.block_size h))

      pub plan_over : (b.rows ≡ 0 → ⊥) → b.block_size < now + n → would_fit b data_len places_len key f ≡ refuse 4
      plan_over z h =
          let t : fits b key f ≡ false = sym (fits-rule b key f with_row) ∙ rw (ne_eqb b.rows 0 z, lt-leb (now + n) b.block_size h) in
          fit-by b data_len places_len key f m.state tested t

-- ---- a row that is tested: adding

-- a refusal that is handed on
pub planning-handed : (b : Builder) (key : Key) (f : Fields) (x : Result Planned Refusal) (r : Refusal) {want : Res (Unit {0})} → IsErrAnd x (λ q. q ≡ r) → want ≡ refuse (number r)
    → Planning want b key f x
planning-handed b key f x r e w =
    let p = err_from_is_err_and x e in
    rw (p.1, p.2) w

module _ (b : Builder) (data_len places_len : ℕ) (key : Key) (f : Fields) where
  pub accept_no : {n : ℕ} → would_fit b data_len places_len key f ≡ refuse n → whether (add b data_len places_len key f) ≡ refuse n
  accept_no e = ap whether (add-by b data_len places_len key f e refl refl refl)

  module _ {found : Planned} (p : Planning (would_fit b data_len places_len key f) b key f (Ok found)) where
    pub accept_far : max_offset < b.used → whether (add b data_len places_len key f) ≡ refuse 5
    accept_far h = ap whether (add-by b data_len places_len key f p.0 (lt-ltb max_offset b.used h) refl refl)

    module _ (near : b.used ≤ max_offset) where
      close : ltb max_offset b.used ≡ false
      close = le-ltb max_offset b.used near

      pub accept_short : data_len < found.size → whether (add b data_len places_len key f) ≡ refuse 6
      accept_short h = ap whether (add-by b data_len places_len key f p.0 close (lt-ltb data_len _ (omega (arith, p.2))) refl)

      module _ (room : found.size ≤ data_len) where
        roomy : ltb data_len (b.used + 2 * b.rows + 2 + length (next_row b key f) + 2) ≡ false
        roomy = le-ltb data_len _ (omega (arith, p.2))

        pub accept_places : places_len ≤ b.rows → whether (add b data_len places_len key f) ≡ refuse 6
        accept_places k = ap whether (add-by b data_len places_len key f p.0 close roomy (le-leb places_len b.rows k))

        pub accept_good : b.rows < places_len → Planning (whether (add b data_len places_len key f)) b key f (Ok found)
        accept_good k = (ap whether (add-by b data_len places_len key f p.0 close roomy (lt-leb places_len b.rows k)), p.1, p.2)
