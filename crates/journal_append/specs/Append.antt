-- The writer, "that appends at a given used length": 32 when that length is past the buffer, 30 and 31 of the used part, 33 when the used part ends inside a record,
-- 34 when the record doesn't fit the buffer or 65,536, in this order; "and then writes nothing".
use Rattle.std.specs.Prelude.{ℕ, ◌+◌, cond, ◌||◌, ltb, length, take, Result, Ok, Err}
use Rattle.layout.specs.Bytes.{Bytes}
use Rattle.layout.specs.Place.{splice}
use Rattle.journal.specs.declared.Refusal.{Refusal}
use Rattle.journal.specs.declared.Refusal.TheVariants.{UsedPastBuffer, EndsInside, NoRoom}
use Rattle.journal.specs.declared.Record.{Record}
use Rattle.journal.specs.Record.{length_of, kind_of, record_bytes, max_journal}
use Rattle.journal_read.specs.Reader.{Journal, holds, refused, journal_of}

-- a record of n bytes after the used part, in a buffer of `room` bytes: the new used length
abbrev pub placed : ℕ → ℕ → ℕ → Journal → Result ℕ Refusal
placed room used n (refused x) = Err x
placed room used n (holds rs end) =
    cond (ltb end used) (Err EndsInside)
    (cond (ltb room (used + n) || ltb max_journal (used + n)) (Err NoRoom)
    (Ok (used + n)))

unfoldable pub appended : Bytes → ℕ → Record → Result ℕ Refusal
appended buffer used r =
    cond (ltb (length buffer) used) (Err UsedPastBuffer)
    (placed (length buffer) used (length_of (kind_of r)) (journal_of (take used buffer)))

-- the buffer after that: a refusal writes nothing, and the bytes before and after the record stay
abbrev pub written : Result ℕ Refusal → Bytes → ℕ → Record → Bytes
written (Ok next) buffer used r = splice buffer used (record_bytes r)
written (Err x) buffer used r = buffer
