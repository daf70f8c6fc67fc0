-- A loop over a journal's records: `Going` says that what is made of the records from `at` on is what is made of the whole journal. One law for each thing that such a
-- loop meets.
use Rattle.std.specs.Prelude.{ℕ, zero, suc, ◌+◌, ◌≤◌, ◌<◌, ◌≡◌, refl, List, [], length}
use Rattle.std.proofs.Common.{ap, sym, ◌∙◌, arith, lt-ltb, le-ltb}
use Rattle.layout.proofs.Laws.Res.{spend}
use Rattle.journal.specs.declared.Refusal.TheVariants.{TooLong, UnknownKind}
use Rattle.journal.specs.Record.{length_of, kind_at, body_at, found_in, max_journal}
use Rattle.journal_read.specs.Reader.{Journal, holds, refused, after, onward, records_from, journal_of}
use Rattle.journal.specs.Laws.Found.{found-end, found_unknown, found_incomplete, found-whole}

pub journal_long : (d : List ℕ) → max_journal < length d → journal_of d ≡ refused TooLong
unfolding journal_of
journal_long d h = rw (lt-ltb max_journal (length d) h)

pub journal_from : (d : List ℕ) → length d ≤ max_journal → journal_of d ≡ records_from (length d) d 0
unfolding journal_of
journal_from d h = rw (le-ltb max_journal (length d) h)

pub records-over : (left : ℕ) (d : List ℕ) (at : ℕ) → length d ≤ at → records_from left d at ≡ holds [] at
unfolding records_from
records-over zero d at h = refl
records-over (suc left) d at h = rw (found-end d at h)

pub records-step : (left : ℕ) (d : List ℕ) (at : ℕ) → records_from (suc left) d at ≡ onward (found_in d at) at (λ next. records_from left d next)
unfolding records_from
records-step left d at = refl

pub record Going {A : Type 0} (d : List ℕ) (make : Journal → A) (whole : A) (at : ℕ) : Type 0 where
  pub left : ℕ
  pub enough : length d ≤ at + left
  pub makes : make (records_from left d at) ≡ whole

pub going_start : {A : Type 0} (d : List ℕ) (make : Journal → A) → length d ≤ max_journal → Going d make (make (journal_of d)) 0
going_start d make h = record { left = length d; enough = omega arith; makes = ap make (sym (journal_from d h)) }

module _ {A : Type 0} (d : List ℕ) (make : Journal → A) (whole : A) (at : ℕ) (g : Going d make whole at) where
  pub going_end : length d ≤ at → make (holds [] at) ≡ whole
  going_end h = ap make (sym (records-over g.left d at h)) ∙ g.makes

  module _ (h : at < length d) where
    next-is : {B : Type 0} → ((left : ℕ) → length d ≤ at + suc left → make (onward (found_in d at) at (λ next. records_from left d next)) ≡ whole → B) → B
    next-is f =
        spend (λ (n : ℕ). make (records_from n d at)) g.left (λ z. absurd (omega (arith, g.enough))) g.makes
        λ more is m. f more (omega (arith, g.enough)) (ap make (sym (records-step more d at)) ∙ m)

    pub going_unknown : length_of (kind_at d at) ≡ 0 → make (refused (UnknownKind at)) ≡ whole
    going_unknown e = next-is λ left q m. rw (found_unknown d at h e) at m

    module _ (some : length_of (kind_at d at) ≡ 0 → ⊥) where
      pub going-tail : length d < at + length_of (kind_at d at) → make (holds [] at) ≡ whole
      going-tail l = next-is λ left q m. rw (found_incomplete d at h some l) at m

      pub going_more : (make' : Journal → A) → at + length_of (kind_at d at) ≤ length d → ((j : Journal) → make (after (body_at (kind_at d at) d at) j) ≡ make' j)
          → Going d make' whole (at + length_of (kind_at d at))
      going_more make' l e =
          next-is λ left q m.
          record {
            left = left;
            enough = more (length_of (kind_at d at)) left some q;
            makes = sym (e (records_from left d (at + length_of (kind_at d at)))) ∙ (rw (found-whole d at h some l) at m);
          }
        where
          more : (n left : ℕ) → (n ≡ 0 → ⊥) → length d ≤ at + suc left → length d ≤ at + n + left
          more n left s q = omega arith
