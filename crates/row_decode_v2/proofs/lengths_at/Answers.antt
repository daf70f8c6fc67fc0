-- `lengths_at` keeps to the definition: three varints, each from where the one before it ends.
-- Each exit is a law of the definition, over the numbers that were read on the way to it.
use mathlib.Core.Path.{sym}
use Rattle.layout.proofs.Laws.RowExits.{lengths-one, lengths-two, lengths-three, lengths-good}
use Rattle.basics.specs.Answers.{handed-on}
use Rattle.row_decode_v2.specs.Reading.{lengths_from}
use Rattle.row_decode_v2.proofs.lengths_at.Goals as goal

pub returns-in_err-shared : goal.returns-in_err-shared
returns-in_err-shared c = handed-on lengths_from _ _ c.from_residual.ensures.1 (lengths-one _ _ (sym c.in_err-shared.ensures))

pub returns-in_err-unshared : goal.returns-in_err-unshared
returns-in_err-unshared c =
    handed-on lengths_from _ _ c.from_residual-in_err-unshared.ensures.1 (lengths-two _ _ (sym c.in_ok-shared.ensures) (sym c.in_err-unshared.ensures))

pub returns-in_err-value_len : goal.returns-in_err-value_len
returns-in_err-value_len c =
    handed-on lengths_from _ _ c.from_residual-in_err-value_len.ensures.1 (lengths-three _ _ (sym c.in_ok-shared.ensures) (sym c.in_ok-unshared.ensures) (sym c.in_err-value_len.ensures))

pub returns : goal.returns
returns c = lengths-good _ _ (sym c.in_ok-shared.ensures) (sym c.in_ok-unshared.ensures) (sym c.in_ok-value_len.ensures)
