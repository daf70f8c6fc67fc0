use mathlib.Core.Path.{sym, ap, ◌∙◌}
use Rattle.layout.specs.Res.{ok}
use Rattle.layout.proofs.Laws.Search.{on-empty, on-no, on-up, on-down}
use Rattle.basics.specs.Answers.{handed-on}
use Rattle.block_keys_v1.specs.Says.{found_from}
use Rattle.block_keys_v1.proofs.+search_rows.Goals as goal

pub returns-then-high-low : goal.returns-then-high-low
returns-then-high-low t c = on-empty _ _ _ _ c.if-high-low.true

pub returns-in_err-upper : goal.returns-in_err-upper
returns-in_err-upper t c = handed-on found_from _ _ c.from_residual.ensures.1 (on-no _ _ _ _ c.if-high-low.false (sym c.in_err-upper.ensures))

pub returns-then-upper : goal.returns-then-upper
returns-then-upper t c =
    on-up _ _ _ _ c.if-high-low.false (sym c.in_ok-upper.ensures ∙ ap ok c.if-upper.true) c.search_rows.ensures

pub returns-else-upper : goal.returns-else-upper
returns-else-upper t c =
    on-down _ _ _ _ c.if-high-low.false (sym c.in_ok-upper.ensures ∙ ap ok c.if-upper.false) c.search_rows-else-upper.ensures
