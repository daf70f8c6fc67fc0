-- `open` answers the check's verdict, how many rows there are to count, and the place before the first, which is the cursor that `new` promised.
use mathlib.Core.Path.{refl}
use Rattle.tally.proofs.Laws.{opened-good, opened-refused}
use Rattle.tally.proofs.open.Goals as goal

pub returns-in-Ok : goal.returns-in-Ok
returns-in-Ok c =
    opened-good _ _ c.check-checked.ensures _ c.new-opened.ensures refl c.in-Ok.is

pub returns-in-Err : goal.returns-in-Err
returns-in-Err c =
    opened-refused _ _ c.check-checked.ensures _ c.new-opened.ensures refl c.in-Err.is
