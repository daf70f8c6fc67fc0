-- What follows the tests: a row that passed them has room, so it is written; and the promises of the public functions, from what their parts did.
-- What the definition's `add` tells of an accepted row is all that the writers ask: room in the data, a free place, an offset that is not too far, a key that fits. What is refused is
-- refused before the first write.
use Prim.Native.Nat.{ℕ, ◌+◌, ◌-◌, ◌*◌, ◌≤◌}
use mathlib.Core.Path.{◌≡◌, refl, ap, sym, ◌∙◌}
use mathlib.Core.Bool.{Bool, true, false, cond, ◌&&◌}
use mathlib.Core.List.{List}
use native.Mathlib.Omega.{arith}
use lib.Dec.{ltb, leb}
use lib.ListN.{length, take, drop, set, length-take, length-drop}
use lib.Seq.{take_all}
use borrow.Author.Tests.{eq-eqb, ne_eqb}
use borrow.Rule.Slice.PartMut.{mid_of, put_mid, mid_len}
use Rattle.std.specs.Prelude.{Result, Ok, Err}
use Rattle.layout.specs.Res.{Res, ok, refuse, bind}
use Rattle.layout.specs.Builder.{Builder, at_restart, next_row, would_fit, grown, add}
use Rattle.layout.specs.Key.{Key}
use Rattle.layout.specs.Limits.{max_key, max_offset}
use Rattle.layout.specs.Place.{splice}
use Rattle.layout.specs.Row.{Fields, if_so, row_bytes, value_of, length_tests, encode_row}
use Rattle.layout.specs.RowRead.{may_share}
use Rattle.layout.proofs.Laws.Block.{shares-is}
use Rattle.layout.proofs.Laws.Builder.{StateOk}
use Rattle.layout.proofs.Laws.Building.{laid_row-bytes, fit-tells, add_fit}
use Rattle.layout.specs.Laws.Made.{Accepted}
use Rattle.layout.proofs.Laws.Made.{add-tells}
use Rattle.layout.proofs.Laws.RowExits.{encode-is}
use Rattle.layout.specs.Laws.Splice.{Wrote}
use Rattle.basics.specs.Number.{number}
use Rattle.basics.specs.declared.Refusal.{Refusal}
use Rattle.basics.specs.declared.Refusal.TheVariants.{BadState}
use Rattle.buf_mut.specs.Promise.{Puts}
use Rattle.buf_mut.proofs.Laws.{copied}
use Rattle.row_encode_v2.proofs.Rest.{laid-rest, laid-not}
use Rattle.row_encode_v2.specs.Promise.{Encodes}
use Rattle.row_flags.specs.Says.{fields_from}
use Rattle.row_flags.specs.declared.RowFields.{RowFields}
use Rattle.state_v2.specs.declared.State.{State}
use Rattle.state_v2.specs.Says.{view_from}
use Rattle.build_in_place_v2.specs.declared.Planned.{Planned}
use Rattle.build_in_place_v2.specs.Plan.{plan_is, plan_of, fitted, accepted, Tested, Fitting, Grew}
use Rattle.build_in_place_v2.specs.Promise.{entered, AddsInPlaceAs}
use Rattle.build_in_place_v2.proofs.Plain.{over_last}
use Rattle.build_in_place_v2.proofs.Tests.{passed-not, passed, accepted-tells}

-- ---- a row that passed the tests

pub tested-is : (b : Builder) (bytes places : List ℕ) (key : Key) (f : Fields) {shared size : ℕ} {restart : Bool}
    → accepted b (length bytes) (length places) key f ≡ ok (plan_is shared size restart) → Tested b bytes places key f shared restart
tested-is b bytes places key f q =
    let p = accepted-tells b (length bytes) (length places) key f q in
    record { share-is = sym (ap (λ (x : Planned). x.shared) p.1); mark-is = sym (ap (λ (x : Planned). x.restart) p.1); passed = p.0 }

module _ (s : State) (last bytes places : List ℕ) (key : Key) (f : Fields) {shared : ℕ} {restart : Bool} (t : Tested (view_from s last) bytes places key f shared restart) where
  tells : Accepted (view_from s last) (length bytes) (length places) key f (grown (view_from s last) key f)
  tells = add-tells (view_from s last) (length bytes) (length places) key f (grown (view_from s last) key f) t.passed

  fit : StateOk (view_from s last) (length bytes) (length places) × (length_tests (length key) (length (value_of f)) ≡ ok tt)
  fit = fit-tells (view_from s last) (length bytes) (length places) key f (add_fit (view_from s last) (length bytes) (length places) key f (grown (view_from s last) key f) t.passed)

  bytes-are : row_bytes shared (drop shared key) f ≡ next_row (view_from s last) key f
  bytes-are = rw t.share-is (laid_row-bytes (take s.last_key_len last) key (at_restart (view_from s last)) f)

  pub tested-fits : Fitting bytes s.used s.last_key_len shared key f
  tested-fits =
      let o = shares-is (at_restart (view_from s last)) (take s.last_key_len last) key in
      let long = length-take s.last_key_len last in
      record {
        own = omega (arith, t.share-is, o.own);
        shares = omega (arith, t.share-is, o.may, may (at_restart (view_from s last)) (length (take s.last_key_len last)));
        tested = rw (t.share-is, o.whole) fit.1;
        room = rw bytes-are (omega (arith, tells.room));
      }
    where
      may : (t : Bool) (n : ℕ) → may_share t n ≤ n
      may true n = omega arith
      may false n = omega arith

  pub tested-near : (restart && ltb max_offset s.used) ≡ false
  tested-near = rw t.mark-is tells.near

  pub tested-place : (restart && leb (length places) s.restarts) ≡ false
  tested-place = rw t.mark-is tells.place

  pub tested-rows : 12 * s.counter ≤ s.used
  tested-rows = fit.0.least

  -- and was written
  pub grew : {used count : ℕ} {p : Result ℕ Refusal} {last' bytes' places' : List ℕ} → length last ≡ max_key → Wrote bytes s.used (row_bytes shared (drop shared key) f) bytes' used
      → (count ≡ s.restarts + if_so restart 1) × (places' ≡ cond restart (set places s.restarts s.used) places) → Puts (mid_of shared (length key - shared) key) last shared p last'
      → Grew s last bytes places key f
      (record {
        block_size = s.block_size;
        restart_interval = s.restart_interval;
        used = used;
        restarts = count;
        counter = s.counter + 1;
        last_key_len = length key;
      })
      last' bytes' places'
  grew {used} {count} {p} {last'} long w c q =
      let all : mid_of shared (length key - shared) key ≡ drop shared key = take_all (length key - shared) (drop shared key) (rw (length-drop shared key) (omega arith)) in
      let fits : shared + length (drop shared key) ≤ length last = omega (arith, length-drop shared key, tested-fits.own, tells.key_fits) in
      let u : used ≡ s.used + length (next_row (view_from s last) key f) = w.next ∙ ap (λ (l : List ℕ). s.used + length l) bytes-are in
      let n : count ≡ s.restarts + if_so (at_restart (view_from s last)) 1 = c.0 ∙ ap (λ (m : Bool). s.restarts + if_so m 1) t.mark-is in
      record {
        state = rw (u, n);
        last-after = copied fits (rw all at q) ∙ over_last last s.last_key_len (at_restart (view_from s last)) key t.share-is;
        bytes_after = w.is ∙ ap (λ (l : List ℕ). splice bytes s.used l) bytes-are;
        places-after = c.1 ∙ ap (λ (m : Bool). cond m (set places s.restarts s.used) places) t.mark-is;
      }

-- ---- a row, encoded into the free rest of the data: it has passed the encoder's tests

module _ (bytes : List ℕ) (used last_len shared : ℕ) (key value : List ℕ) (row : RowFields) (w : Fitting bytes used last_len shared key (fields_from row value)) where
  abbrev suffix : List ℕ
  suffix = mid_of shared (length key - shared) key

  abbrev rest : List ℕ
  rest = mid_of used (length bytes - used) bytes

  encodes : encode_row last_len shared suffix (fields_from row value) (length rest) ≡ ok (row_bytes shared (drop shared key) (fields_from row value))
  encodes =
      let all : suffix ≡ drop shared key = take_all (length key - shared) (drop shared key) (rw (length-drop shared key) (omega arith)) in
      let room : length rest ≡ length bytes - used = mid_len used (length bytes) bytes (omega arith) in
      rw all (encode-is last_len shared (drop shared key) (fields_from row value) (length rest) w.shares w.tested (omega (arith, w.room)))

  module _ {e : Result ℕ Refusal} {part : List ℕ} (q : Encodes last_len shared suffix value row rest e part) where
    pub row_wrote : {n : ℕ} → e ≡ Ok n → Wrote bytes used (row_bytes shared (drop shared key) (fields_from row value)) (put_mid used (length bytes - used) bytes part) (used + n)
    row_wrote t = laid-rest bytes used encodes w.room q t

    pub row-refused : {x : Refusal} → e ≡ Err x → ⊥
    row-refused t = laid-not bytes used encodes w.room q t

-- ---- the lent bytes of the last key

module _ (s : State) (last : List ℕ) where
  pub entered-is : length last ≡ max_key → entered s last ≡ ok (view_from s last)
  entered-is h = rw (eq-eqb (length last) max_key h)

  pub entered-not : (length last ≡ max_key → ⊥) → entered s last ≡ refuse 18
  entered-not h = rw (ne_eqb (length last) max_key h)

-- ---- the fit question

module _ (s : State) (last : List ℕ) (data_len places_len : ℕ) (key : Key) (f : Fields) where
  abbrev asked : Res (Unit {0})
  asked = bind (entered s last) λ v. would_fit v data_len places_len key f

  pub fit_strange : (length last ≡ max_key → ⊥) → refuse 18 ≡ asked
  fit_strange h = rw (entered-not s last h)

  module _ (long : length last ≡ max_key) where
    pub fit-said : {shared size : ℕ} {restart : Bool} → fitted (view_from s last) data_len places_len key f ≡ ok (plan_is shared size restart) → ok tt ≡ asked
    fit-said q = rw (entered-is s last long) (sym (passed (would_fit (view_from s last) data_len places_len key f) (λ _. plan_of (view_from s last) key f) q).1)

    pub fit_refused : {n : ℕ} → fitted (view_from s last) data_len places_len key f ≡ refuse n → refuse n ≡ asked
    fit_refused q = rw (entered-is s last long) (sym (passed-not (would_fit (view_from s last) data_len places_len key f) (λ _. plan_of (view_from s last) key f) q))

-- ---- adding

module _ (s : State) (last bytes places : List ℕ) (key : Key) (f : Fields) where
  abbrev wanted : Res Builder
  wanted = bind (entered s last) λ v. add v (length bytes) (length places) key f

  abbrev Grows : Result State Refusal → List ℕ → List ℕ → List ℕ → Type 0
  Grows r last' bytes' places' = AddsInPlaceAs wanted s last bytes places key f r last' bytes' places'

  grows-not : {x : Refusal} → wanted ≡ refuse (number x) → Grows (Err x) last bytes places
  grows-not q = rw q (record { answer = refl; last-after = refl; bytes_after = refl; places-after = refl })

  -- bytes that are not as many as the longest key has
  pub grows_strange : (length last ≡ max_key → ⊥) → Grows (Err BadState) last bytes places
  grows_strange h = grows-not (rw (entered-not s last h))

  module _ (long : length last ≡ max_key) where
    taken : wanted ≡ add (view_from s last) (length bytes) (length places) key f
    taken = rw (entered-is s last long)

    pub grows-refused : {x : Refusal} → accepted (view_from s last) (length bytes) (length places) key f ≡ refuse (number x) → Grows (Err x) last bytes places
    grows-refused q =
        grows-not (taken ∙ passed-not (add (view_from s last) (length bytes) (length places) key f) (λ _. plan_of (view_from s last) key f) q)

    pub grows : {shared : ℕ} {restart : Bool} {r : State} {last' bytes' places' : List ℕ} → Tested (view_from s last) bytes places key f shared restart
        → Grew s last bytes places key f r last' bytes' places' → Grows (Ok r) last' bytes' places'
    grows t g =
        rw (taken ∙ t.passed)
        (record { answer = ap ok g.state; last-after = g.last-after; bytes_after = g.bytes_after; places-after = g.places-after })
