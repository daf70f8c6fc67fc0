-- What the public function promises: the definition's answer, for any bytes.
use Rattle.std.specs.Prelude.{ℕ, ◌≡◌, List, Result}
use Rattle.layout_v1.specs.Check.{check}
use Rattle.basics.specs.Answers.{says_same}
use Rattle.basics.specs.declared.Refusal.{Refusal}

abbrev pub Checks : List ℕ → Result ℕ Refusal → Type 0
Checks b r = says_same r ≡ check b
