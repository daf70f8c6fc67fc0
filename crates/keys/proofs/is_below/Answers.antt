-- `is_below` says whether the comparison answers `less`.
use mathlib.Core.Path.{ap, ◌∙◌}
use Rattle.layout.specs.Laws.Compare.{is_less}
use Rattle.layout.proofs.Laws.Compare.{compare-less-below}
use Rattle.keys.specs.Says.{less-said}
use Rattle.keys.proofs.is_below.Goals as goal

pub returns : goal.returns
returns c = c.is_lt.ensures ∙ less-said _ ∙ ap is_less c.compare.ensures ∙ compare-less-below _ _
