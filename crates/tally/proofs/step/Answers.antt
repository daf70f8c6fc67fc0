-- `step` hands on what the step in place found: by each of its three answers, the definition `passed_of` at that answer.
use mathlib.Core.Path.{sym, ap, ◌∙◌}
use Rattle.std.specs.Prelude.{Ok}
use Rattle.tally.specs.Parts.{passed_of}
use Rattle.tally.proofs.step.Goals as goal

pub returns-in-Ok-Found : goal.returns-in-Ok-Found
returns-in-Ok-Found c = record { moved = _; steps = c.next_in_place.ensures; hands_on = sym (ap (passed_of _) (c.in-Ok-Found.is ∙ ap Ok c.in-Ok-Found.field-0-is)) }

pub returns-in-Ok-Done : goal.returns-in-Ok-Done
returns-in-Ok-Done c = record { moved = _; steps = c.next_in_place.ensures; hands_on = sym (ap (passed_of _) (c.in-Ok-Done.is ∙ ap Ok c.in-Ok-Done.field-0-is)) }

pub returns-in-Err : goal.returns-in-Err
returns-in-Err c = record { moved = _; steps = c.next_in_place.ensures; hands_on = sym (ap (passed_of _) c.in-Err.is) }
