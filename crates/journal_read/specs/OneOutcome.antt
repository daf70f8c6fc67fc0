-- The promise admits one outcome.
use Rattle.std.specs.Prelude.{ℕ, ◌≡◌, List, Result}
use Rattle.std.proofs.Common.{sym, ◌∙◌}
use Rattle.journal.specs.declared.Refusal.{Refusal}
use Rattle.journal_read.specs.declared.Reading.{Reading}
use Rattle.journal_read.specs.Promise.{ReadsAll}

pub read-settled : (d : List ℕ) (r q : Result Reading Refusal) → ReadsAll d r → ReadsAll d q → r ≡ q
read-settled d r q a b = a ∙ sym b
