-- The writer's answers case by case, by what the reader said of the used part; and what its writes leave.
use Rattle.std.specs.Prelude.{ℕ, suc, ◌+◌, ◌≤◌, ◌<◌, ◌≡◌, refl, Bool, true, false, cond, List, [], ◌∷◌, ltb, length, take, set, Result, Ok, Err, Option, Some, None}
use Rattle.std.proofs.Common.{ap, sym, ◌∙◌, arith, length-append, lt-ltb, le-ltb, ltb-true, ltb-false}
use Rattle.layout.specs.Place.{splice}
use Rattle.layout.proofs.Laws.Fixed.{length-big}
use Rattle.layout.proofs.Laws.Splice.{then-write, set-splice}
use Rattle.journal.specs.declared.Refusal.{Refusal}
use Rattle.journal.specs.declared.Refusal.TheVariants.{UsedPastBuffer, EndsInside, NoRoom}
use Rattle.journal.specs.declared.Record.{Record}
use Rattle.journal.specs.declared.Record.TheVariants.{Debit, TopUp, Close}
use Rattle.journal_read.specs.declared.Reading.{Reading}
use Rattle.journal.specs.Record.{length_of, kind_of, record_bytes, body_bytes, max_journal}
use Rattle.journal_read.specs.Reader.{Journal, holds, refused, journal_of, tail_of, counted, reading_of}
use Rattle.journal_append.specs.Append.{placed, appended}
use Rattle.journal.specs.Laws.Found.{length-debit, length_up, length-close}
use Rattle.journal_read.specs.Laws.Going.{journal_long}

-- ---- after a whole used part

module _ (room used n : ℕ) where
  pub place_short : room < used + n → Err NoRoom ≡ placed room used n (holds [] used)
  place_short h = rw (le-ltb used used (omega arith), lt-ltb room (used + n) h)

  module _ (h : used + n ≤ room) where
    pub place-most : max_journal < used + n → Err NoRoom ≡ placed room used n (holds [] used)
    place-most l = rw (le-ltb used used (omega arith), le-ltb room (used + n) h, lt-ltb max_journal (used + n) l)

    pub place-good : used + n ≤ max_journal → Ok (used + n) ≡ placed room used n (holds [] used)
    place-good l = rw (le-ltb used used (omega arith), le-ltb room (used + n) h, le-ltb max_journal (used + n) l)

  -- ---- by what the reader said

  pub place-refused : (size : ℕ) (j : Journal) (x : Refusal) → counted size j ≡ Err x → Err x ≡ placed room used n j
  place-refused size (holds rs end) x e = cc
  place-refused size (refused y) x e = let same : y ≡ x = cc in ap Err (sym same)

  end-from : (end size p : ℕ) → tail_of end size ≡ Some p → end < size
  end-from end size p e = go (ltb end size) refl e
    where
      go : (t : Bool) → ltb end size ≡ t → cond t (Some end) None ≡ Some p → end < size
      go true q e = ltb-true end size q
      go false q e = absurd (let z : ◌≡◌ {A = ℕ} 0 1 = cc in omega arith)

  end_none : (end size : ℕ) → tail_of end size ≡ None → size ≤ end
  end_none end size e = go (ltb end size) refl e
    where
      go : (t : Bool) → ltb end size ≡ t → cond t (Some end) None ≡ None → size ≤ end
      go true q e = absurd (let z : ◌≡◌ {A = ℕ} 0 1 = cc in omega arith)
      go false q e = ltb-false end size q

  -- the tail in an answer; the other case is never asked
  abbrev tail_in : Result Reading Refusal → Option ℕ
  tail_in (Ok x) = x.tail
  tail_in (Err x) = None

  pub place-tail : (j : Journal) (m p : ℕ) → counted used j ≡ Ok (record { records = m; tail = Some p }) → Err EndsInside ≡ placed room used n j
  place-tail (holds rs end) m p e = let t : tail_of end used ≡ Some p = ap tail_in e in rw (lt-ltb end used (end-from end used p t))
  place-tail (refused y) m p e = cc

  pub place-whole : (j : Journal) (m : ℕ) → counted used j ≡ Ok (record { records = m; tail = None }) → placed room used n (holds [] used) ≡ placed room used n j
  place-whole (holds rs end) m e = let t : tail_of end used ≡ None = ap tail_in e in rw (le-ltb end used (end_none end used t), le-ltb used used (omega arith))
  place-whole (refused y) m e = absurd (let z : ◌≡◌ {A = ℕ} 0 1 = cc in omega arith)

module _ (buffer : List ℕ) (used : ℕ) (r : Record) where
  pub append-past : length buffer < used → Err UsedPastBuffer ≡ appended buffer used r
  unfolding appended
  append-past h = rw (lt-ltb (length buffer) used h)

  pub append-reads : used ≤ length buffer → placed (length buffer) used (length_of (kind_of r)) (journal_of (take used buffer)) ≡ appended buffer used r
  unfolding appended
  append-reads h = rw (le-ltb (length buffer) used h)

pub reading_is : (d : List ℕ) → reading_of d ≡ counted (length d) (journal_of d)
unfolding reading_of
reading_is d = refl

-- a journal that was read is not over 65,536 bytes
pub reading_short : (d : List ℕ) (m : ℕ) (t : Option ℕ) → reading_of d ≡ Ok (record { records = m; tail = t }) → length d ≤ max_journal
reading_short d m t e = go (ltb max_journal (length d)) refl
  where
    go : (b : Bool) → ltb max_journal (length d) ≡ b → length d ≤ max_journal
    go true q =
        let s = sym e ∙ reading_is d ∙ ap (counted (length d)) (journal_long d (ltb-true max_journal (length d) q)) in
        absurd (let z : ◌≡◌ {A = ℕ} 0 1 = cc in omega arith)
    go false q = ltb-false max_journal (length d) q

-- ---- what is written

pub length-body : (card retry amount : ℕ) → length (body_bytes card retry amount) ≡ 20
length-body card retry amount = simp (length-append, length-big)

pub length_record : (r : Record) → length (record_bytes r) ≡ length_of (kind_of r)
unfolding record_bytes
length_record (Debit c n a) = ap suc (length-body c n a) ∙ sym (length-debit 1 refl)
length_record (TopUp c n a) = ap suc (length-body c n a) ∙ sym (length_up 2 refl)
length_record (Close c) = ap suc (length-big 8 c) ∙ sym (length-close 3 refl)

-- a kind, and the body after it
pub kind-then : (xs : List ℕ) (used k : ℕ) (w : List ℕ) {ys : List ℕ} → used + 1 + length w ≤ length xs → ys ≡ splice (set xs used k) (used + 1) w → ys ≡ splice xs used (k ∷ w)
kind-then xs used k w {ys} h e = then-write xs (set xs used k) ys used (used + 1) (k ∷ []) w (set-splice xs used k (omega arith)) refl h e
