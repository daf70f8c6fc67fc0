-- What a private answer says to the definitions.
use Rattle.std.specs.Prelude.{Result}
use Rattle.layout.specs.Res.{Res}
use Rattle.basics.specs.Answers.{says}
use Rattle.basics.specs.declared.Refusal.{Refusal}
use Rattle.compare_walks.specs.declared.Walked.{Walked}
use Rattle.compare_walks.specs.Walk.{Walk, walk_is}

abbrev pub walk_from : Walked → Walk
walk_from w = walk_is w.over w.rows w.sum

abbrev pub says_walked : Result Walked Refusal → Res Walk
says_walked = says walk_from
