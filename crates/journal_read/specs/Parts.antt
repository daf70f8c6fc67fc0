-- What the reader's loop makes of the rest of a journal.
use Rattle.std.specs.Prelude.{ℕ, ◌+◌, length, Result, Ok, Err}
use Rattle.journal.specs.declared.Refusal.{Refusal}
use Rattle.journal_read.specs.declared.Reading.{Reading}
use Rattle.journal_read.specs.Reader.{Journal, holds, refused, tail_of}

-- a journal's answer, after n records
abbrev pub shown : ℕ → ℕ → Journal → Result Reading Refusal
shown size n (holds rs end) = Ok (record { records = n + length rs; tail = tail_of end size })
shown size n (refused x) = Err x
