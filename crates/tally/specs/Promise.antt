-- What each public function promises: one equation to the definitions, that settles every count and the answer.
use Rattle.std.specs.Prelude.{ℕ, ◌≡◌, List, Result, ⊤}
use Rattle.basics.specs.Says.{says_held}
use Rattle.basics.specs.declared.ValueDeletable.{ValueDeletable}
use Rattle.basics.specs.Answers.{says_verdict}
use Rattle.tally.specs.declared.Tally.{Tally}
use Rattle.basics.specs.declared.Refusal.{Refusal}
use Rattle.tally.specs.Tally.{counted, tally_block}
use Rattle.tally.specs.Says.{told, after_block}

-- of the tally that comes and the tally returned, or of one lent tally at entry and at exit
abbrev pub CountsRow : Tally → ValueDeletable → Tally → Type 0
CountsRow t held r = r ≡ counted t (says_held held)

-- likewise, with the answer
abbrev pub CountsBlock : Tally → List ℕ → Tally → Result ⊤ Refusal → Type 0
CountsBlock t b s answer = told s (says_verdict answer) ≡ after_block t (tally_block t b)
