use mathlib.Core.Path.{sym, ◌∙◌}
use Rattle.layout.proofs.Laws.Search.{on-empty}
use Rattle.basics.specs.Answers.{handed-on}
use Rattle.keys.specs.Says.{less-said}
use Rattle.block_restarts_v2.specs.Laws.{halved-no, halved-up, halved-down}
use Rattle.block_restarts_v2.specs.Reading.{found_from}
use Rattle.block_restarts_v2.proofs.+binary_search_restarts.Goals as goal

pub returns-then-high-low : goal.returns-then-high-low
returns-then-high-low t c = on-empty _ _ _ _ c.if-high-low.true

pub returns-in_err-order : goal.returns-in_err-order
returns-in_err-order t c = handed-on found_from _ _ c.from_residual.ensures.1 (halved-no _ _ _ _ _ _ c.if-high-low.false (sym c.in_err-order.ensures))

pub returns-then-is_lt : goal.returns-then-is_lt
returns-then-is_lt t c =
    halved-up _ _ _ _ _ _ c.if-high-low.false (sym c.in_ok-order.ensures)
    (sym (less-said _) ∙ sym c.is_lt.ensures ∙ c.if-is_lt.true) c.binary_search_restarts.ensures

pub returns-else-is_lt : goal.returns-else-is_lt
returns-else-is_lt t c =
    halved-down _ _ _ _ _ _ c.if-high-low.false (sym c.in_ok-order.ensures)
    (sym (less-said _) ∙ sym c.is_lt.ensures ∙ c.if-is_lt.false) c.binary_search_restarts-else-is_lt.ensures
