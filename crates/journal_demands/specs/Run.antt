-- A journal as it was read: `Run d at rs end` says that the records from `at` on are those of rs, and that they end at `end`. Every theorem goes by it.
use Rattle.std.specs.Prelude.{ℕ, zero, suc, ◌+◌, ◌≤◌, ◌≡◌, refl, Bool, true, false, List, [], ◌∷◌, ltb, length, Ok, Err, Result}
use Rattle.std.proofs.Common.{ap, sym, ◌∙◌, subst, arith, ltb-true, ltb-false}
use Rattle.journal.specs.declared.Refusal.{Refusal}
use Rattle.journal.specs.declared.Record.{Record}
use Rattle.journal.specs.declared.Found.{Found}
use Rattle.journal.specs.declared.Found.TheVariants.{Whole, Incomplete, End}
use Rattle.journal.specs.Record.{length_of, kind_of, found_in, max_journal}
use Rattle.journal_read.specs.Reader.{Journal, holds, refused, after, onward, records_from, journal_of}
use Rattle.journal.specs.Laws.Found.{tells, found-moves, found-end, found-kind}
use Rattle.journal_read.specs.Laws.Going.{journal_long, journal_from, records-over, records-step}

pub data Run (d : List ℕ) : ℕ → List Record → ℕ → Type 0 where
  over : {at : ℕ} → found_in d at ≡ Ok End → Run d at [] at
  tail : {at : ℕ} → found_in d at ≡ Ok Incomplete → Run d at [] at
  more : {at next end : ℕ} {r : Record} {rs : List Record} → found_in d at ≡ Ok (Whole r next) → Run d next rs end → Run d at (r ∷ rs) end

-- what a journal tells of its parts
holds-end : {rs qs : List Record} {e f : ℕ} → holds rs e ≡ holds qs f → e ≡ f
holds-end p = cc

holds-records : {rs qs : List Record} {e f : ℕ} → holds rs e ≡ holds qs f → rs ≡ qs
holds-records p = cc

-- ---- a journal that was read has its run

run-from : (left : ℕ) (d : List ℕ) (at : ℕ) (rs : List Record) (end : ℕ) → length d ≤ at + left → records_from left d at ≡ holds rs end → Run d at rs end
run-from zero d at rs end h e =
    let f : holds [] at ≡ holds rs end = sym (records-over zero d at (omega arith)) ∙ e in
    subst (λ (qs : List Record). Run d at qs end) (holds-records f) (subst (λ (n : ℕ). Run d at [] n) (holds-end f) (over (found-end d at (omega arith))))
run-from (suc left) d at rs end h e = go (found_in d at) refl (sym (records-step left d at) ∙ e) (run-from left d)
  where
    empty : holds [] at ≡ holds rs end → Run d at [] at → Run d at rs end
    empty f r = subst (λ (qs : List Record). Run d at qs end) (holds-records f) (subst (λ (n : ℕ). Run d at [] n) (holds-end f) r)

    on : (r : Record) (next : ℕ) → found_in d at ≡ Ok (Whole r next) → (j : Journal) → records_from left d next ≡ j → after r j ≡ holds rs end
        → ((p : ℕ) (qs : List Record) (f : ℕ) → length d ≤ p + left → records_from left d p ≡ holds qs f → Run d p qs f) → Run d at rs end
    on r next p (holds qs f) q e ih =
        let m = found-moves d at r next p in
        subst (λ (l : List Record). Run d at l end) (holds-records e) (subst (λ (n : ℕ). Run d at (r ∷ qs) n) (holds-end e) (more p (ih next qs f (omega arith) q)))
    on r next p (refused x) q e ih = absurd (let z : ◌≡◌ {A = ℕ} 0 1 = cc in omega arith)

    go : (x : Result Found Refusal) → found_in d at ≡ x → onward x at (λ next. records_from left d next) ≡ holds rs end
        → ((p : ℕ) (qs : List Record) (f : ℕ) → length d ≤ p + left → records_from left d p ≡ holds qs f → Run d p qs f) → Run d at rs end
    go (Ok End) p e ih = empty e (over p)
    go (Ok Incomplete) p e ih = empty e (tail p)
    go (Err x) p e ih = absurd (let z : ◌≡◌ {A = ℕ} 0 1 = cc in omega arith)
    go (Ok (Whole r next)) p e ih = on r next p (records_from left d next) refl e ih

pub readable_short : (d : List ℕ) (rs : List Record) (end : ℕ) → journal_of d ≡ holds rs end → length d ≤ max_journal
readable_short d rs end e = go (ltb max_journal (length d)) refl
  where
    go : (t : Bool) → ltb max_journal (length d) ≡ t → length d ≤ max_journal
    go true q = let f = sym (journal_long d (ltb-true max_journal (length d) q)) ∙ e in absurd (let z : ◌≡◌ {A = ℕ} 0 1 = cc in omega arith)
    go false q = ltb-false max_journal (length d) q

pub run_of : (d : List ℕ) (rs : List Record) (end : ℕ) → journal_of d ≡ holds rs end → Run d 0 rs end
run_of d rs end e = run-from (length d) d 0 rs end (omega arith) (sym (journal_from d (readable_short d rs end e)) ∙ e)

-- ---- and a run is read

from-run : (left : ℕ) {d : List ℕ} {at : ℕ} {rs : List Record} {end : ℕ} → length d ≤ at + left → Run d at rs end → records_from left d at ≡ holds rs end
from-run zero {d} {at} h (over e) = records-over zero d at (omega arith)
from-run zero {d} {at} h (tail e) = records-over zero d at (omega arith)
from-run zero {d} {at} h (more {next} {r} e w) =
    absurd (let t = tells d at r next e in omega (arith, t.past, t.some, t.inside))
from-run (suc left) {d} {at} h (over e) = records-step left d at ∙ rw e
from-run (suc left) {d} {at} h (tail e) = records-step left d at ∙ rw e
from-run (suc left) {d} {at} h (more {next} {r} e w) =
    let m = found-moves d at r next e in
    records-step left d at ∙ (rw e (ap (after r) (from-run left (omega arith) w)))

pub read-run : {d : List ℕ} {rs : List Record} {end : ℕ} → length d ≤ max_journal → Run d 0 rs end → journal_of d ≡ holds rs end
read-run {d} h w = journal_from d h ∙ from-run (length d) (omega arith) w

-- ---- where it ends

pub run-le : {d : List ℕ} {at : ℕ} {rs : List Record} {end : ℕ} → Run d at rs end → at ≤ end
run-le (over e) = omega arith
run-le (tail e) = omega arith
run-le {d} {at} (more {next} {r} e w) = let m = found-moves d at r next e in omega (arith, run-le w)

pub run_inside : {d : List ℕ} {at : ℕ} {rs : List Record} {end : ℕ} → at ≤ length d → Run d at rs end → end ≤ length d
run_inside h (over e) = h
run_inside h (tail e) = h
run_inside {d} {at} h (more {next} {r} e w) = run_inside (tells d at r next e).inside w

-- the place after a record, by its kind
pub next-is : (d : List ℕ) (at : ℕ) (r : Record) (next : ℕ) → found_in d at ≡ Ok (Whole r next) → next ≡ at + length_of (kind_of r)
next-is d at r next e =
    (tells d at r next e).past ∙ ap (λ (k : ℕ). at + length_of k) (sym (found-kind d at r next e))
