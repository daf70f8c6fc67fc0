-- `length_of` gives the length of the byte's kind, or 0 if it has none.
use mathlib.Core.Path.{ap, sym, ◌∙◌}
use Rattle.journal.specs.Record.{length_of}
use Rattle.journal.specs.Laws.Found.{kind-is, not_kind}
use Rattle.journal.proofs.length_of.Goals as goal

pub returns-in-Ok : goal.returns-in-Ok
returns-in-Ok c = c.length.ensures ∙ ap length_of (kind-is _ _ c.in-Ok.ensures)

pub returns-in-Err : goal.returns-in-Err
returns-in-Err c = sym (not_kind _ _ c.in-Err.ensures)
