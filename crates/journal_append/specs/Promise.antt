-- What the public function promises: equations to the definitions, that settle every answer and every byte lent.
use Rattle.std.specs.Prelude.{ℕ, ◌≡◌, List, Result}
use Rattle.journal.specs.declared.Refusal.{Refusal}
use Rattle.journal.specs.declared.Record.{Record}
use Rattle.journal_append.specs.Append.{appended, written}

-- the answer, and the buffer that is left
pub record Appends (buffer : List ℕ) (used : ℕ) (record' : Record) (r : Result ℕ Refusal) (buffer' : List ℕ) : Type 0 where
  pub answer : r ≡ appended buffer used record'
  pub bytes : buffer' ≡ written r buffer used record'
