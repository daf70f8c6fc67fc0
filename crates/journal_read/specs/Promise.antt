-- What the public function promises: an equation to the definition, that settles every answer.
use Rattle.std.specs.Prelude.{◌≡◌, List, ℕ, Result}
use Rattle.journal.specs.declared.Refusal.{Refusal}
use Rattle.journal_read.specs.declared.Reading.{Reading}
use Rattle.journal_read.specs.Reader.{reading_of}

abbrev pub ReadsAll : List ℕ → Result Reading Refusal → Type 0
ReadsAll d r = r ≡ reading_of d
