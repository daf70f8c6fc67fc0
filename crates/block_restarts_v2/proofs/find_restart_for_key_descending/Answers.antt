-- `find_restart_for_key_descending` keeps its promise: the search's refusal, or what follows from the restart found.
-- A search that was not refused has tested the trailer, which is what reading that restart requires.
use mathlib.Core.Path.{sym, ◌∙◌}
use Rattle.basics.specs.Answers.{handed-on}
use Rattle.keys.specs.Says.{equal-said}
use Rattle.block_restarts_v2.specs.Laws.{searched, down-no, down-past, down-refused, down-earlier, down_run}
use Rattle.block_restarts_v2.proofs.find_restart_for_key_descending.Goals as goal

pub returns-in_err-found : goal.returns-in_err-found
returns-in_err-found c = handed-on (λ s. s) _ _ c.from_residual.ensures.1 (down-no _ _ _ (sym c.in_err-found.ensures))

pub returns-then-t-found : goal.returns-then-t-found
returns-then-t-found c = down-past _ _ _ _ (sym c.in_ok-found.ensures) c.if-t-found.true c.saturating_sub.ensures

pub compare_first_key_at_restart-requires : goal.compare_first_key_at_restart-requires
compare_first_key_at_restart-requires c = (searched _ _ _ _ (sym c.in_ok-found.ensures), c.if-t-found.false)

pub returns-in_err-order : goal.returns-in_err-order
returns-in_err-order c =
    handed-on (λ s. s) _ _ c.from_residual-in_err-order.ensures.1 (down-refused _ _ _ _ (sym c.in_ok-found.ensures) c.if-t-found.false (sym c.in_err-order.ensures))

pub last_equal-requires : goal.last_equal-requires
last_equal-requires c = (searched _ _ _ _ (sym c.in_ok-found.ensures), c.if-t-found.false)

pub returns-then-is_eq : goal.returns-then-is_eq
returns-then-is_eq c =
    down_run _ _ _ _ (sym c.in_ok-found.ensures) c.if-t-found.false (sym c.in_ok-order.ensures) (sym (equal-said _) ∙ sym c.is_eq.ensures ∙ c.if-is_eq.true) c.last_equal.ensures

pub returns : goal.returns
returns c =
    down-earlier _ _ _ _ (sym c.in_ok-found.ensures) c.if-t-found.false (sym c.in_ok-order.ensures) (sym (equal-said _) ∙ sym c.is_eq.ensures ∙ c.if-is_eq.false) c.saturating_sub.ensures
