-- The balance's loop over a journal: a record says how far it has come, with a law for each thing that it meets.
use Rattle.std.specs.Prelude.{ℕ, ◌+◌, ◌*◌, ◌^◌, ◌≤◌, ◌<◌, ◌≡◌, refl, false, List, [], ◌∷◌, ℤ, pos, ◌-ℤ◌, length, Ok, Err, Option}
use Rattle.std.proofs.Common.{ap, sym, ◌∙◌, zero-add, add-zero, add_assoc, arith}
use Rattle.journal.specs.declared.Refusal.TheVariants.{TooLong}
use Rattle.journal.specs.declared.Record.{Record}
use Rattle.journal_balance.specs.declared.Sums.{Sums}
use Rattle.journal.specs.Record.{debit_kind, top_up_kind, length_of, kind_at, body_at, max_journal}
use Rattle.journal_read.specs.Reader.{Journal, holds, refused, after, journal_of, tail_of}
use Rattle.journal_balance.specs.Counts.{closes, some}
use Rattle.journal_balance.specs.Balance.{worth, total, settled, balance_in}
use Rattle.journal_balance.specs.Parts.{here, Passed, TakesIn, settled_from}
use Rattle.journal.specs.Laws.Found.{found-whole}
use Rattle.journal_read.specs.Laws.Going.{Going, going_start, going_more, journal_long}
use Rattle.journal_balance.specs.Laws.Walk.{walk_more, some-none}

pub total-none : (kind card : ℕ) (before : List Record) → total kind card before [] ≡ 0
unfolding total
total-none kind card before = refl

pub total-more : (kind card : ℕ) (before : List Record) (r : Record) (rs : List Record)
    → total kind card before (r ∷ rs) ≡ worth kind card before r + total kind card (r ∷ before) rs
unfolding total
total-more kind card before r rs = refl

pub balance_long : (d : List ℕ) (card : ℕ) → max_journal < length d → balance_in d card ≡ Err TooLong
unfolding balance_in
balance_long d card h = ap (settled card (length d)) (journal_long d h)

settled-none : (card size : ℕ) (j : Journal) → settled_from card size [] 0 0 j ≡ settled card size j
settled-none card size (holds rs end) = rw (zero-add (total top_up_kind card [] rs), zero-add (total debit_kind card [] rs))
settled-none card size (refused x) = refl

settled-more : (card size : ℕ) (before : List Record) (u w : ℕ) (r : Record) (j : Journal)
    → settled_from card size before u w (after r j) ≡ settled_from card size (r ∷ before) (u + worth top_up_kind card before r) (w + worth debit_kind card before r) j
settled-more card size before u w r (holds rs end) =
    rw (
      total-more top_up_kind card before r rs,
      total-more debit_kind card before r rs,
      add_assoc u (worth top_up_kind card before r) (total top_up_kind card (r ∷ before) rs),
      add_assoc w (worth debit_kind card before r) (total debit_kind card (r ∷ before) rs),
    )
settled-more card size before u w r (refused x) = refl

pub record Balancing (d : List ℕ) (card : ℕ) (s : Sums) (at : ℕ) : Type 0 where
  pub before : List Record
  pub passed : Passed d at before
  pub closed : s.closed ≡ some (closes card) before
  pub small : s.ups + s.downs ≤ at * 2 ^ 32
  pub going : Going d (settled_from card (length d) before s.ups s.downs) (balance_in d card) at

pub balancing_start : (d : List ℕ) (card : ℕ) (s : Sums) → s ≡ record { ups = 0; downs = 0; closed = false } → length d ≤ max_journal → Balancing d card s 0
unfolding balance_in
balancing_start d card s e h =
    rw e (record {
      before = [];
      passed = here;
      closed = sym (some-none (closes card));
      small = omega arith;
      going = rw (settled-none card (length d) (journal_of d)) at (going_start d (settled_from card (length d) [] 0 0) h);
    })

module _ (d : List ℕ) (card : ℕ) (s : Sums) (at : ℕ) (b : Balancing d card s at) where
  pub balancing_more : (t : Sums) → (h : at < length d) → (some : length_of (kind_at d at) ≡ 0 → ⊥) → (fits : at + length_of (kind_at d at) ≤ length d)
      → TakesIn card b.before (body_at (kind_at d at) d at) s t → t.ups + t.downs ≤ s.ups + s.downs + 2 ^ 32 → Balancing d card t (at + length_of (kind_at d at))
  balancing_more t h more fits takes few =
      record {
        before = body_at (kind_at d at) d at ∷ b.before;
        passed = walk_more b.passed (found-whole d at h more fits);
        closed = takes.closed;
        small = least (length_of (kind_at d at)) more;
        going =
            going_more d (settled_from card (length d) b.before s.ups s.downs) (balance_in d card) at b.going h more
            (settled_from card (length d) (body_at (kind_at d at) d at ∷ b.before) t.ups t.downs) fits
            (λ j. settled-more card (length d) b.before s.ups s.downs (body_at (kind_at d at) d at) j
            ∙ rw (takes.ups, takes.downs) refl);
      }
    where
      least : (n : ℕ) → (n ≡ 0 → ⊥) → t.ups + t.downs ≤ (at + n) * 2 ^ 32
      least n p = omega (arith, b.small)

  pub balancing_last : (z : ℤ) (t : Option ℕ) → z ≡ pos s.ups -ℤ pos s.downs → tail_of at (length d) ≡ t
      → settled_from card (length d) b.before s.ups s.downs (holds [] at) ≡ Ok (record { balance = z; tail = t })
  balancing_last z t e f =
      rw (
        total-none top_up_kind card b.before,
        total-none debit_kind card b.before,
        add-zero s.ups,
        add-zero s.downs,
        e,
        f,
      )
