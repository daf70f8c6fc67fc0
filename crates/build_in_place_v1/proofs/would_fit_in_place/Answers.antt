-- `would_fit_in_place` keeps its promise: bytes that are not a first key's are 18; for others the answer is the fit question's.
-- `plan_row` makes the same tests, and says more: of a row that fits, what was found is dropped, and a refusal is handed on as it is.
use mathlib.Core.Path.{refl}
use Rattle.basics.specs.Answers.{handed-on}
use Rattle.build_in_place_v1.proofs.Writes.{fit_strange, fit-said}
use Rattle.build_in_place_v1.proofs.would_fit_in_place.Goals as goal

pub returns-in_default : goal.returns-in_default
returns-in_default c = fit_strange _ _ _ _ _ _ c.in_default.ensures.1

pub returns-in_err-plan_row : goal.returns-in_err-plan_row
returns-in_err-plan_row c =
    let w = c.in-Ok.ensures.1 in
    handed-on (λ v. tt) _ _ c.from_residual.ensures.1 (fit-said _ _ _ _ _ _ w.long (rw w.same at (c.in_err-plan_row.ensures _ refl)))

pub returns : goal.returns
returns c =
    let w = c.in-Ok.ensures.1 in
    fit-said _ _ _ _ _ _ w.long (rw w.same at (c.in_ok-plan_row.ensures _ refl).0)
