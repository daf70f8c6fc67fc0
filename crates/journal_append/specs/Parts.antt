-- What the private functions are asked for.
use Rattle.std.specs.Prelude.{ℕ, ◌≡◌, List, [], length, Result}
use Rattle.journal.specs.declared.Refusal.{Refusal}
use Rattle.journal.specs.declared.Record.{Record}
use Rattle.journal.specs.Record.{length_of, kind_of}
use Rattle.journal_read.specs.Reader.{holds}
use Rattle.journal_append.specs.Append.{placed, written}

pub record Places (buffer : List ℕ) (used : ℕ) (record' : Record) (r : Result ℕ Refusal) (buffer' : List ℕ) : Type 0 where
  pub answer : r ≡ placed (length buffer) used (length_of (kind_of record')) (holds [] used)
  pub bytes : buffer' ≡ written r buffer used record'
