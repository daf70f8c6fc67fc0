-- The reader's loop, and where the records end.
use Rattle.std.specs.Prelude.{ℕ, ◌+◌, ◌≤◌, ◌<◌, ◌≡◌, refl, List, [], length, Ok, Err, Option, Some, None}
use Rattle.std.proofs.Common.{ap, zero-add, add-zero, arith, lt-ltb, le-ltb}
use Rattle.journal.specs.declared.Refusal.TheVariants.{TooLong}
use Rattle.journal.specs.declared.Record.{Record}
use Rattle.journal.specs.Record.{max_journal}
use Rattle.journal_read.specs.Reader.{Journal, holds, refused, after, journal_of, tail_of, counted, reading_of}
use Rattle.journal_read.specs.Parts.{shown}
use Rattle.journal_read.specs.Laws.Going.{Going, going_start, journal_long}

-- ---- where the records end

pub tail_from : (at size : ℕ) → at < size → tail_of at size ≡ Some at
tail_from at size h = rw (lt-ltb at size h)

pub tail_none : (at size : ℕ) → size ≤ at → tail_of at size ≡ None
tail_none at size h = rw (le-ltb at size h)

-- ---- the reader

pub reading_long : (d : List ℕ) → max_journal < length d → reading_of d ≡ Err TooLong
unfolding reading_of
reading_long d h = ap (counted (length d)) (journal_long d h)

shown-none : (size : ℕ) (j : Journal) → shown size 0 j ≡ counted size j
shown-none size (holds rs end) = ap (λ (n : ℕ). Ok (record { records = n; tail = tail_of end size })) (zero-add (length rs))
shown-none size (refused x) = refl

pub shown-start : (d : List ℕ) → length d ≤ max_journal → Going d (shown (length d) 0) (reading_of d) 0
unfolding reading_of
shown-start d h = rw (shown-none (length d) (journal_of d)) at (going_start d (shown (length d) 0) h)

pub shown-more : (size n : ℕ) (r : Record) (j : Journal) → shown size n (after r j) ≡ shown size (n + 1) j
shown-more size n r (holds rs end) = ap (λ (k : ℕ). Ok (record { records = k; tail = tail_of end size })) (omega arith)
shown-more size n r (refused x) = refl

pub shown-last : (size n at : ℕ) (t : Option ℕ) → tail_of at size ≡ t → shown size n (holds [] at) ≡ Ok (record { records = n; tail = t })
shown-last size n at t e = rw (e, add-zero n)
