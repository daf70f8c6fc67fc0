-- What each public function promises: equations to the definitions of `layout`, that settle each number answered.
use Rattle.std.specs.Prelude.{ℕ, ◌≡◌, List, Result}
use Rattle.layout.specs.Place.{varint_at}
use Rattle.basics.specs.declared.Refusal.{Refusal}
use Rattle.basics.specs.declared.Read.{Read}
use Rattle.basics.specs.Answers.{says_num}

abbrev pub ReadsVarint : List ℕ → ℕ → Result (Read ℕ) Refusal → Type 0
ReadsVarint s at r = says_num r ≡ varint_at s at
