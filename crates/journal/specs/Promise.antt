-- What each public function promises: equations to the definitions, that settle every answer.
use Rattle.std.specs.Prelude.{ℕ, ◌≡◌, List, Result}
use Rattle.journal.specs.declared.Refusal.{Refusal}
use Rattle.journal.specs.declared.Kind.{Kind}
use Rattle.journal.specs.declared.NoKind.{NoKind}
use Rattle.journal.specs.declared.Record.{Record}
use Rattle.journal.specs.declared.Found.{Found}
use Rattle.journal.specs.Number.{number}
use Rattle.journal.specs.Record.{byte_of, kind_in, length_of, kind_of, record_at}

abbrev pub Numbered : Refusal → ℕ → Type 0
Numbered r n = n ≡ number r

abbrev pub Decodes : ℕ → Result Kind NoKind → Type 0
Decodes byte r = r ≡ kind_in byte

abbrev pub StandsFor : Kind → ℕ → Type 0
StandsFor kind r = r ≡ byte_of kind

abbrev pub Measures : ℕ → ℕ → Type 0
Measures kind r = r ≡ length_of kind

abbrev pub HasKind : Record → Kind → Type 0
HasKind record' r = byte_of r ≡ kind_of record'

abbrev pub Finds : List ℕ → ℕ → Result Found Refusal → Type 0
Finds d at r = r ≡ record_at d at
