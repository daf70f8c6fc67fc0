-- `open_place` keeps its promise: the cursor that was opened, or beside a refusal the one at 0 in region 0.
use Rattle.place_v2.proofs.Opens.{opens_so, opens_not}
use Rattle.place_v2.proofs.open_place.Goals as goal

pub returns-in-Ok : goal.returns-in-Ok
returns-in-Ok c = opens_so _ _ c.in-Ok.ensures

pub returns-in-Err : goal.returns-in-Err
returns-in-Err c = opens_not _ _ c.in-Err.ensures c.fresh.ensures
