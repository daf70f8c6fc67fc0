-- A promise from what was met: one law for each exit of a step, of a row's read, of an opening and of a seek.
-- What a row shares is a part of the first key where it lies, so the row's key is two parts of the data.
use Prim.Native.Nat.{ℕ, suc, ◌+◌, ◌-◌, ◌≤◌, ◌<◌}
use mathlib.Core.Path.{◌≡◌, refl, ap, sym, ◌∙◌, subst}
use mathlib.Core.Bool.{cond}
use mathlib.Core.List.{List}
use Rattle.std.specs.Prelude.{Result, Ok, Err, Some, None, IsErrAnd, ⊤}
use Rattle.std.proofs.lemmas.Result.{err_from_is_err_and}
use native.Mathlib.Omega.{arith}
use native.Mathlib.Numerals.{add-one}
use lib.Dec.{eqb}
use lib.ListN.{length, take, drop, length-drop}
use lib.Seq.{take-take, length-take-le}
use Rattle.layout.specs.Res.{Res, ok, refuse}
use Rattle.layout.specs.Place.{splice}
use Rattle.layout.specs.Key.{Key}
use Rattle.layout.specs.RowRead.{RowRead, KeyRead, key_length}
use Rattle.layout.specs.Trailer.{Trailer, data_of, Region, region_of}
use Rattle.layout.proofs.Laws.Splice.{length-splice, then-write}
use Rattle.layout.specs.Cursor.{Direction, ascending, descending}
use Rattle.layout_v1.specs.RowRead.{read_row}
use Rattle.layout_v1.specs.Check.{before}
use Rattle.layout_v1.specs.Cursor.{Cursor, cursor_is, found, done, Step, step_is, number_of, step_to}
use Rattle.layout_v1.specs.Seek.{Sought as SoughtL, sought_is}
use Rattle.layout_v1.proofs.Laws.RowReads.{RowEnds, read_row-ends}
use Rattle.layout_v1.proofs.Laws.Cursor.{before-length, share-fits, step-region, step_row, step-short, step-found}
use Rattle.basics.specs.Number.{number}
use Rattle.basics.specs.Says.{says_order}
use Rattle.basics.specs.declared.IterationOrder.{IterationOrder}
use Rattle.basics.specs.declared.Refusal.{Refusal}
use Rattle.basics.specs.declared.Refusal.TheVariants.{KeyBufferTooShort}
use Rattle.buf_mut.proofs.Laws.{copied-part}
use Rattle.buf_mut.specs.Promise.{Puts}
use Rattle.row_decode_v2.specs.Says.{row_from}
use Rattle.row_decode_v2.specs.declared.Row.{Row}
use Rattle.block_keys_v1.specs.Handed.{first_place}
use Rattle.block_keys_v1.specs.Laws.{first-is, first-lies, first-length}
use Rattle.block_iterator.specs.declared.BlockIterator.{BlockIterator}
use Rattle.block_iterator.specs.declared.Loaded.{Loaded}
use Rattle.block_iterator.specs.declared.Next.{Next}
use Rattle.block_iterator.specs.Parts.{key_at, Fits, step_from, says_loaded, Ready, Loads, Tests, refused_with}
use Rattle.block_iterator.specs.Promise.{Opens, Steps, Seeks}
use Rattle.block_iterator.specs.Says.{view_of}

-- ---- a step

module _ (want : Res Step) (c : BlockIterator) (out : List ℕ) where
  pub steps-not : {x : Refusal} {r : Next} → want ≡ refuse (number x) → r ≡ refused_with c x → Steps want c out r out
  steps-not e q = rw (e, q) (record { answer = refl; view = refl; lent = refl })

  pub steps-done : want ≡ ok (step_is (view_of c) done) → Steps want c out (record { iterator = c; answer = Ok None }) out
  steps-done e = rw e (record { answer = refl; view = refl; lent = refl })

  pub steps-found : {i : ℕ} {row : Row} {key out' : List ℕ} → want ≡ ok (step_is (cursor_is (says_order c.order) (suc c.passed)) (found i (row_from row) key))
      → out' ≡ splice out 0 key
      → Steps want c out (record { iterator = record { order = c.order; passed = c.passed + 1 }; answer = Ok (Some (record { number = i; row = row })) }) out'
  steps-found e q = rw (e, q, add-one c.passed) (record { answer = refl; view = refl; lent = refl })

  pub steps_as : {w : Res Step} {r : Next} {out' : List ℕ} → want ≡ w → Steps w c out r out' → Steps want c out r out'
  steps_as e s = rw e s

-- ---- the row that it reads, after a first key that lies in the data

module _ (b : List ℕ) (t : Trailer) (i room : ℕ) where
  pub loads_not : {x : Refusal} → ((c : Cursor) → step_to c b t room i ≡ refuse (number x)) → Loads b t i room (Err x)
  loads_not e = record { says = λ c. sym (e c); ready = tt }

  -- a refusal that is handed on
  pub loads_on : (a : Result Loaded Refusal) (x : Refusal) → IsErrAnd a (λ q. q ≡ x) → ((c : Cursor) → step_to c b t room i ≡ refuse (number x)) → Loads b t i room a
  loads_on a x e w =
      let p = err_from_is_err_and a e in
      rw (p.1, p.2) (loads_not w)

  module _ (k : KeyRead) (e : first_place b t ≡ ok k) where
    abbrev first : Key
    first = take k.suffix_len (drop k.suffix_at (data_of b t))

    pub loads_region : (a : Result Loaded Refusal) (x : Refusal) → IsErrAnd a (λ r. r ≡ x) → region_of b t i ≡ refuse (number x) → Loads b t i room a
    loads_region a x u q = loads_on a x u λ c. step-region c b room t i first (first-is b t k e) q

    module _ (g : Region) (q : region_of b t i ≡ ok g) {most : ℕ} (m : most ≡ cond (eqb i 0) 0 k.suffix_len) where
      long : length (before first i) ≡ most
      long = before-length first i ∙ rw (first-length b t k e) (sym m)

      after : {x : Res RowRead} → read_row (data_of b t) g.start g.end most ≡ x → read_row (data_of b t) g.start g.end (length (before first i)) ≡ x
      after w = ap (read_row (data_of b t) g.start g.end) long ∙ w

      pub loads_no : (a : Result Loaded Refusal) (x : Refusal) → IsErrAnd a (λ r. r ≡ x) → read_row (data_of b t) g.start g.end most ≡ refuse (number x) → Loads b t i room a
      loads_no a x u w = loads_on a x u λ c. step_row c b room t i first (first-is b t k e) g q (after w)

      module _ (row : Row) (w : read_row (data_of b t) g.start g.end most ≡ ok (row_from row)) where
        ends : RowEnds (data_of b t) g.start most (row_from row)
        ends = read_row-ends (data_of b t) g.start g.end most (row_from row) w

        pub loads_short : room < key_length (row_from row) → Loads b t i room (Err KeyBufferTooShort)
        loads_short h = loads_not λ c. step-short c b room t i first (first-is b t k e) g q (row_from row) (after w) h

        shares : row.shared ≤ k.suffix_len
        shares =
            let h = share-fits first i row.shared (rw long ends.shares) in
            rw (first-length b t k e) at h

        pub loads_row : key_length (row_from row) ≤ room → Loads b t i room (Ok (record { first_at = k.suffix_at; row = row }))
        loads_row h =
            record {
              says = λ c.
                  sym (step-found c b room t i first (first-is b t k e) g q (row_from row) (after w) h ∙ rw (take-take row.shared k.suffix_len (drop k.suffix_at (data_of b t)) shares));
              ready = record { first = omega (arith, first-lies b t k e, shares); suffix = omega (arith, ends.suffixes, ends.room, ends.inside); held = h };
            }

-- what was loaded is what the step to the row answers
module _ (b : List ℕ) (t : Trailer) (i room : ℕ) {a : Result Loaded Refusal} (l : Loads b t i room a) where
  pub loaded-row : {x : Loaded} (c : Cursor) → a ≡ Ok x → step_to c b t room i ≡ ok (step_from c (data_of b t) i x)
  loaded-row c e = sym (l.says c) ∙ ap (says_loaded c (data_of b t) i) e

  pub loaded-fits : {x : Loaded} → a ≡ Ok x → Fits (data_of b t) x.first_at room (row_from x.row)
  loaded-fits e = subst (Ready (data_of b t) room) e l.ready

  pub loaded-not : {x : Refusal} (c : Cursor) → a ≡ Err x → step_to c b t room i ≡ refuse (number x)
  loaded-not c e = sym (l.says c) ∙ ap (says_loaded c (data_of b t) i) e

-- ---- the number of the row, and the key in its two parts

pub number-inside : (d : Direction) (count passed : ℕ) {n : ℕ} → passed < count → n ≡ number_of d count passed → n < count
number-inside ascending count passed h e = omega arith
number-inside descending count passed h e = omega arith

part-long : (d : List ℕ) (at n : ℕ) → at + n ≤ length d → length (take n (drop at d)) ≡ n
part-long d at n h = length-take-le n (drop at d) (rw (length-drop at d) (omega arith))

-- what is shared is put first, then the suffix
pub two-parts : (d out : List ℕ) (at : ℕ) (row : Row) (ys zs : List ℕ) {p q : Result ℕ Refusal} → Fits d at (length out) (row_from row) → Puts (take (at + row.shared - at) (drop at d)) out 0 p ys
    → Puts (take (row.suffix_at + row.suffix_len - row.suffix_at) (drop row.suffix_at d)) ys row.shared q zs → zs ≡ splice out 0 (key_at d at (row_from row))
two-parts d out at row ys zs f u v =
    let one : ys ≡ splice out 0 (take row.shared (drop at d)) = copied-part d at row.shared (omega (arith, f.held)) f.first u in
    let n = part-long d at row.shared f.first in
    let m = part-long d row.suffix_at row.suffix_len f.suffix in
    let long : length ys ≡ length out = ap length one ∙ length-splice out 0 (take row.shared (drop at d)) (omega (arith, f.held)) in
    let two = copied-part d row.suffix_at row.suffix_len (omega (arith, f.held)) f.suffix v in
    then-write out ys zs 0 row.shared (take row.shared (drop at d)) (take row.suffix_len (drop row.suffix_at d)) one (omega arith) (omega (arith, f.held)) two

-- ---- opening

module _ (b : List ℕ) (order : IterationOrder) where
  pub opens : (r : Result ⊤ Refusal) → Tests b r → Opens b order (record { iterator = record { order = order; passed = 0 }; answer = r })
  opens (Ok v) e = record { answer = rw (← e (says_order order)) refl; view = rw (← e (says_order order)) refl }
  opens (Err x) e = record { answer = rw (← e (says_order order)) refl; view = rw (← e (says_order order)) refl }

-- ---- a seek

module _ (want : Res SoughtL) (c : BlockIterator) where
  pub seeks-not : {x : Refusal} → want ≡ refuse (number x) → Seeks want c (record { iterator = c; answer = Err x })
  seeks-not e = rw e (record { answer = refl; view = refl })

  pub seeks-landed : {p q n : ℕ} → want ≡ ok (sought_is (cursor_is (says_order c.order) q) n) → p ≡ q
      → Seeks want c (record { iterator = record { order = c.order; passed = p }; answer = Ok n })
  seeks-landed e h = rw (e, h) (record { answer = refl; view = refl })
