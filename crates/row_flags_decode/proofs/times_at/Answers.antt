-- `times_at` keeps to the definition: the expire time, then from where it ends the create time.
-- Each exit is a law of the definition, over the time that was read on the way to it.
use mathlib.Core.Path.{sym}
use Rattle.layout.proofs.Laws.RowExits.{times-one, times-two, times-good}
use Rattle.basics.specs.Answers.{handed-on}
use Rattle.row_flags_decode.specs.Says.{times_from}
use Rattle.row_flags_decode.proofs.times_at.Goals as goal

pub returns-in_err-expire : goal.returns-in_err-expire
returns-in_err-expire c = handed-on times_from _ _ c.from_residual.ensures.1 (times-one _ _ _ (sym c.in_err-expire.ensures))

pub returns-in_err-create : goal.returns-in_err-create
returns-in_err-create c =
    handed-on times_from _ _ c.from_residual-in_err-create.ensures.1 (times-two _ _ _ (sym c.in_ok-expire.ensures) (sym c.in_err-create.ensures))

pub returns : goal.returns
returns c = times-good _ _ _ (sym c.in_ok-expire.ensures) (sym c.in_ok-create.ensures)
