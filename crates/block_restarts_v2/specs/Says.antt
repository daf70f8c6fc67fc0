-- What an answer says: where to start, or the number of the refusal. No two say the same.
use Rattle.std.specs.Prelude.{◌≡◌, Result}
use Rattle.layout.specs.Res.{Res}
use Rattle.basics.specs.Answers.{says_same, says_same-one}
use Rattle.basics.specs.declared.Refusal.{Refusal}
use Rattle.block_restarts_v2.specs.declared.Start.{Start}

abbrev pub says_start : Result Start Refusal → Res Start
says_start = says_same

pub says_start-one : (a b : Result Start Refusal) → says_start a ≡ says_start b → a ≡ b
says_start-one = says_same-one
