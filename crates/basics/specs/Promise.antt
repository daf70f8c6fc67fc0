-- What each public function promises.
use Rattle.std.specs.Prelude.{ℕ, Bool, ◌≡◌, Result}
use Rattle.layout.specs.Number.{wrong_after}
use Rattle.basics.specs.declared.Refusal.{Refusal}
use Rattle.basics.specs.Number.{number}
use Rattle.basics.specs.Answers.{refusal_of}

abbrev pub Numbered : Refusal → ℕ → Type 0
Numbered r n = n ≡ number r

abbrev pub RefusalOf : {T : Type 0} → Result T Refusal → Refusal → Type 0
RefusalOf answer r = r ≡ refusal_of answer

abbrev pub TellsWrong : ℕ → ℕ → Bool → Type 0
TellsWrong passed n r = r ≡ wrong_after passed n
