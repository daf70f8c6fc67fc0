-- `accept_row` keeps its promise: the fit question's refusals, then 5 and 6 in their order, or what was found of the row.
-- What `plan_row` found are the definition's share, size and mark, for a value of this length whatever its bytes are; so the three tests after it are those of adding, and each exit is
-- one law of `Tests`.
use mathlib.Core.Path.{sym, ◌∙◌}
use Rattle.basics.specs.Answers.{handed-on}
use Rattle.build_in_place_v2.proofs.Tests.{accept_no, accept_far, accept_short, accept_places, accept_good}
use Rattle.build_in_place_v2.proofs.accept_row.Goals as goal

pub returns-in_err-planned : goal.returns-in_err-planned
returns-in_err-planned c v long = handed-on (λ p. p) _ _ c.from_residual.ensures.1 (accept_no _ _ _ _ _ (sym (c.in_err-planned.ensures v long)))

pub returns-then-restart_too_far : goal.returns-then-restart_too_far
returns-then-restart_too_far c v long = accept_far _ _ _ _ _ (sym (c.in_ok-planned.ensures v long)) (sym c.restart_too_far.ensures ∙ c.if-restart_too_far.true)

pub returns-then-data_len-planned : goal.returns-then-data_len-planned
returns-then-data_len-planned c v long = accept_short _ _ _ _ _ (sym (c.in_ok-planned.ensures v long)) (sym c.restart_too_far.ensures ∙ c.if-restart_too_far.false) c.if-data_len-planned.true

pub returns-then-no_place_left : goal.returns-then-no_place_left
returns-then-no_place_left c v long = accept_places _ _ _ _ _ (sym (c.in_ok-planned.ensures v long)) (sym c.restart_too_far.ensures ∙ c.if-restart_too_far.false) c.if-data_len-planned.false (sym c.no_place_left.ensures ∙ c.if-no_place_left.true)

pub returns : goal.returns
returns c v long = accept_good _ _ _ _ _ (sym (c.in_ok-planned.ensures v long)) (sym c.restart_too_far.ensures ∙ c.if-restart_too_far.false) c.if-data_len-planned.false (sym c.no_place_left.ensures ∙ c.if-no_place_left.false)
