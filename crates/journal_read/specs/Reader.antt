-- The reader. "A journal over 65,536 bytes answers 30; else the first other kind answers 31 with its position"; "an incomplete tail is reported with its start".
use Rattle.std.specs.Prelude.{ℕ, zero, suc, cond, List, [], ◌∷◌, ltb, length, Result, Ok, Err, Option, Some, None}
use Rattle.layout.specs.Bytes.{Bytes}
use Rattle.journal.specs.declared.Refusal.{Refusal}
use Rattle.journal.specs.declared.Refusal.TheVariants.{TooLong}
use Rattle.journal.specs.declared.Record.{Record}
use Rattle.journal.specs.declared.Found.{Found}
use Rattle.journal.specs.declared.Found.TheVariants.{Whole, Incomplete, End}
use Rattle.journal_read.specs.declared.Reading.{Reading}
use Rattle.journal.specs.Record.{found_in, max_journal}

-- a journal: its complete records in order, and where they end; or a refusal
pub data Journal : Type 0 where
  holds : List Record → ℕ → Journal
  refused : Refusal → Journal

abbrev pub after : Record → Journal → Journal
after r (holds rs end) = holds (r ∷ rs) end
after r (refused x) = refused x

-- by what stands at `at`: the end, a tail, a refusal, or a record and what follows it
abbrev pub onward : Result Found Refusal → ℕ → (ℕ → Journal) → Journal
onward (Ok End) at rest = holds [] at
onward (Ok Incomplete) at rest = holds [] at
onward (Err x) at rest = refused x
onward (Ok (Whole r next)) at rest = after r (rest next)

-- at most so many records from `at` on
unfoldable pub records_from : ℕ → Bytes → ℕ → Journal
records_from zero d at = holds [] at
records_from (suc more) d at = onward (found_in d at) at (λ next. records_from more d next)

unfoldable pub journal_of : Bytes → Journal
journal_of d = cond (ltb max_journal (length d)) (refused TooLong) (records_from (length d) d 0)

-- the tail starts where the complete records end, unless the journal ends there
abbrev pub tail_of : ℕ → ℕ → Option ℕ
tail_of end size = cond (ltb end size) (Some end) None

-- how many records, and the tail
abbrev pub counted : ℕ → Journal → Result Reading Refusal
counted size (holds rs end) = Ok (record { records = length rs; tail = tail_of end size })
counted size (refused x) = Err x

unfoldable pub reading_of : Bytes → Result Reading Refusal
reading_of d = counted (length d) (journal_of d)
