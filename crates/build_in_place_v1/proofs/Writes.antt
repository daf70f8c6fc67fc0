-- What follows the tests: a row that passed them has room, so it is written; and the promises of the public functions, from what their parts did.
-- What the definition's `add` tells of an accepted row is all that the writers ask: room in the data, a free place, an offset that is not too far, a key that fits. What is refused is
-- refused before the first write.
use Prim.Native.Nat.{ℕ, ◌+◌, ◌-◌, ◌≤◌}
use mathlib.Core.Path.{◌≡◌, refl, ap, sym, ◌∙◌}
use mathlib.Core.Bool.{cond}
use mathlib.Core.List.{List}
use mathlib.Core.Logic.{⊎_elim}
use native.Mathlib.Omega.{arith}
use lib.Dec.{eqb}
use lib.ListN.{length, take, drop, set, length-take, length-drop}
use lib.Seq.{take_all}
use borrow.Author.Tests.{eq-eqb, ne_eqb}
use borrow.Rule.Slice.PartMut.{mid_of, put_mid, mid_len}
use Rattle.std.specs.Prelude.{Result, Ok, Err}
use Rattle.layout.specs.Res.{Res, ok, refuse, bind, whether}
use Rattle.layout.specs.Key.{Key, common}
use Rattle.layout.specs.Limits.{max_key}
use Rattle.layout.specs.Place.{splice}
use Rattle.layout.specs.Row.{Fields, kept_length, present, length_tests}
use Rattle.layout.proofs.Laws.Key.{common-left}
use Rattle.layout.proofs.Laws.Res.{whether-good, whether-refused, eqb-cases}
use Rattle.layout.proofs.Laws.Row.{length-kept}
use Rattle.layout.specs.Laws.Splice.{Wrote}
use Rattle.layout_v1.specs.Row.{row_bytes, encode_row}
use Rattle.layout_v1.specs.Builder.{Builder, shared_key, next_row, would_fit, grown, add}
use Rattle.layout_v1.proofs.Laws.Builder.{Accepted, laid_row-bytes, shared-none, shared-first, add-tells}
use Rattle.layout_v1.proofs.Laws.RowWrites.{size_is, size-bytes, encode-sized}
use Rattle.basics.specs.Number.{number}
use Rattle.basics.specs.declared.Refusal.{Refusal}
use Rattle.basics.specs.declared.Refusal.TheVariants.{BadState}
use Rattle.row_encode_v0.specs.Promise.{Encodes}
use Rattle.row_encode_v2.proofs.Rest.{laid-rest, laid-not}
use Rattle.row_flags.specs.Says.{fields_from}
use Rattle.row_flags.specs.declared.RowFields.{RowFields}
use Rattle.state_v1.specs.declared.State.{State}
use Rattle.state_v1.specs.Says.{view_from}
use Rattle.build_in_place_v1.specs.declared.Grown.{Grown}
use Rattle.build_in_place_v1.specs.declared.Planned.{Planned}
use Rattle.build_in_place_v1.specs.Plan.{Planning, Tested, Fitting, Grew}
use Rattle.build_in_place_v1.specs.Promise.{entered, AddsInPlaceAs}
use Rattle.build_in_place_v1.proofs.Tests.{share-whole}

-- ---- a row that passed the tests

pub tested-is : (b : Builder) (bytes places : List ℕ) (key : Key) (f : Fields) {found : Planned}
    → Planning (whether (add b (length bytes) (length places) key f)) b key f (Ok found) → Tested b bytes places key f found.shared
tested-is b bytes places key f p =
    record {
      share-is = p.1;
      passed = whether-good (add b (length bytes) (length places) key f) (grown b key f) p.0 (λ b' e. (add-tells b (length bytes) (length places) key f b' e).is);
    }

module _ (s : State) (first bytes places : List ℕ) (key : Key) (f : Fields) {shared : ℕ} (t : Tested (view_from s first) bytes places key f shared) where
  pub tells : Accepted (view_from s first) (length bytes) (length places) key f (grown (view_from s first) key f)
  tells = add-tells (view_from s first) (length bytes) (length places) key f (grown (view_from s first) key f) t.passed

  bytes-are : row_bytes shared (drop shared key) f ≡ next_row (view_from s first) key f
  bytes-are = rw t.share-is (laid_row-bytes (shared_key (view_from s first)) key f)

  -- the share is no longer than the first key is told to be
  shares : shared ≤ s.first_key_len
  shares =
      ⊎_elim (λ z. omega (arith, t.share-is, shared-none (view_from s first) key z.1))
      (λ z. let e : shared ≡ common (take s.first_key_len first) key = t.share-is ∙ ap (λ (k : Key). common k key) (shared-first (view_from s first) z.1) in
      omega (arith, e, common-left (take s.first_key_len first) key, length-take s.first_key_len first))
      (eqb-cases s.rows 0)

  pub tested-fits : Fitting bytes s.used s.first_key_len shared key f
  tested-fits =
      let w = share-whole (shared_key (view_from s first)) key t.share-is in
      record { own = w.0; shares = shares; tested = rw w.1 tells.tested; room = rw bytes-are (omega (arith, tells.room)) }

  -- and was written
  pub grew : {used first_len : ℕ} {first' bytes' : List ℕ} → Wrote bytes s.used (row_bytes shared (drop shared key) f) bytes' used
      → (first_len ≡ cond (eqb s.rows 0) (length key) s.first_key_len) × (first' ≡ cond (eqb s.rows 0) (splice first 0 key) first)
      → Grew s first bytes places key f (record { block_size = s.block_size; used = used; rows = s.rows + 1; first_key_len = first_len }) first' bytes'
      (set places s.rows s.used)
  grew {used} {first_len} w c =
      let u : used ≡ s.used + length (next_row (view_from s first) key f) = w.next ∙ ap (λ (l : List ℕ). s.used + length l) bytes-are in
      record {
        state = rw (u, c.0);
        first-after = c.1;
        bytes_after = w.is ∙ ap (λ (l : List ℕ). splice bytes s.used l) bytes-are;
        places-after = refl;
      }

-- ---- a row, encoded into the free rest of the data: it has passed the encoder's tests

module _ (bytes : List ℕ) (used first_len shared : ℕ) (key value : List ℕ) (row : RowFields) (w : Fitting bytes used first_len shared key (fields_from row value)) where
  abbrev suffix : List ℕ
  suffix = mid_of shared (length key - shared) key

  abbrev rest : List ℕ
  rest = mid_of used (length bytes - used) bytes

  encodes : encode_row first_len shared suffix (fields_from row value) (length rest) ≡ ok (row_bytes shared (drop shared key) (fields_from row value))
  encodes =
      let f = fields_from row value in
      let all : suffix ≡ drop shared key = take_all (length key - shared) (drop shared key) (rw (length-drop shared key) (omega arith)) in
      let room : length rest ≡ length bytes - used = mid_len used (length bytes) bytes (omega arith) in
      let kept : length_tests (shared + length (drop shared key)) (kept_length f.kind (length value)) ≡ ok tt = rw (← length-kept f.kind value) w.tested in
      let sized = sym (size_is shared (length (drop shared key)) f.kind (length value) (present f.expire) (present f.create) kept) in
      rw all (encode-sized shared (drop shared key) f first_len (length rest) w.shares sized (omega (arith, w.room, size-bytes shared (drop shared key) f sized)))

  module _ {e : Result ℕ Refusal} {part : List ℕ} (q : Encodes first_len shared suffix value row rest e part) where
    pub row_wrote : {n : ℕ} → e ≡ Ok n → Wrote bytes used (row_bytes shared (drop shared key) (fields_from row value)) (put_mid used (length bytes - used) bytes part) (used + n)
    row_wrote t = laid-rest bytes used encodes w.room q t

    pub row-refused : {x : Refusal} → e ≡ Err x → ⊥
    row-refused t = laid-not bytes used encodes w.room q t

-- ---- the lent bytes of the first key

module _ (s : State) (first : List ℕ) where
  pub entered-is : length first ≡ max_key → entered s first ≡ ok (view_from s first)
  entered-is h = rw (eq-eqb (length first) max_key h)

  pub entered-not : (length first ≡ max_key → ⊥) → entered s first ≡ refuse 18
  entered-not h = rw (ne_eqb (length first) max_key h)

-- ---- the fit question

module _ (s : State) (first : List ℕ) (data_len places_len : ℕ) (key : Key) (f : Fields) where
  abbrev asked : Res (Unit {0})
  asked = bind (entered s first) λ v. would_fit v data_len places_len key f

  pub fit_strange : (length first ≡ max_key → ⊥) → refuse 18 ≡ asked
  fit_strange h = rw (entered-not s first h)

  pub fit-said : {x : Res (Unit {0})} → length first ≡ max_key → would_fit (view_from s first) data_len places_len key f ≡ x → x ≡ asked
  fit-said long e = rw (entered-is s first long) (sym e)

-- ---- adding

module _ (s : State) (first bytes places : List ℕ) (key : Key) (f : Fields) where
  abbrev wanted : Res Builder
  wanted = bind (entered s first) λ v. add v (length bytes) (length places) key f

  abbrev Grows : Grown → List ℕ → List ℕ → List ℕ → Type 0
  Grows r first' bytes' places' = AddsInPlaceAs wanted s first bytes places key f r first' bytes' places'

  grows-not : {x : Refusal} → wanted ≡ refuse (number x) → Grows (record { state = s; answer = Err x }) first bytes places
  grows-not q = rw q (record { answer = refl; state = refl; first-after = refl; bytes_after = refl; places-after = refl })

  -- bytes that are not as many as the longest key has
  pub grows_strange : (length first ≡ max_key → ⊥) → Grows (record { state = s; answer = Err BadState }) first bytes places
  grows_strange h = grows-not (rw (entered-not s first h))

  module _ (long : length first ≡ max_key) where
    taken : wanted ≡ add (view_from s first) (length bytes) (length places) key f
    taken = rw (entered-is s first long)

    pub grows-refused : {x : Refusal} → whether (add (view_from s first) (length bytes) (length places) key f) ≡ refuse (number x)
        → Grows (record { state = s; answer = Err x }) first bytes places
    grows-refused {x} q = grows-not (taken ∙ whether-refused (add (view_from s first) (length bytes) (length places) key f) (number x) q)

    pub grows : {shared : ℕ} {r : State} {first' bytes' places' : List ℕ} → Tested (view_from s first) bytes places key f shared
        → Grew s first bytes places key f r first' bytes' places' → Grows (record { state = r; answer = Ok tt }) first' bytes' places'
    grows t g =
        rw (taken ∙ t.passed)
        (record { answer = refl; state = g.state; first-after = g.first-after; bytes_after = g.bytes_after; places-after = g.places-after })
