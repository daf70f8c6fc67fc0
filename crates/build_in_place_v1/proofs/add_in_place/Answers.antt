-- `add_in_place` keeps its promise: bytes that are not a first key's are 18, what the tests refuse is refused, both with nothing written; what they accept is grown by.
-- All tests come before all writes, so a refusal leaves the three lent arrays as they came; a row that passed them is what `grow` requires (`tested-is`), and what `grow` leaves is
-- wanted.
use mathlib.Core.Path.{refl}
use Rattle.build_in_place_v1.proofs.Writes.{tested-is, grows_strange, grows-refused, grows}
use Rattle.build_in_place_v1.proofs.add_in_place.Goals as goal

pub returns-in_default : goal.returns-in_default
returns-in_default c = grows_strange _ _ _ _ _ _ c.in_default.ensures.1

pub grow-requires : goal.grow-requires
grow-requires c =
    let w = c.in-Ok.ensures.1 in
    record { first_key_len = w.long; tested = tested-is _ _ _ _ _ (rw w.same at (c.in-Ok-accept_row.ensures _ refl)) }

pub returns-in-Ok-accept_row : goal.returns-in-Ok-accept_row
returns-in-Ok-accept_row c =
    let w = c.in-Ok.ensures.1 in
    grows _ _ _ _ _ _ w.long (tested-is _ _ _ _ _ (rw w.same at (c.in-Ok-accept_row.ensures _ refl))) c.grow.ensures

pub returns-in-Err : goal.returns-in-Err
returns-in-Err c =
    let w = c.in-Ok.ensures.1 in
    grows-refused _ _ _ _ _ _ w.long (rw w.same at (c.in-Err.ensures _ refl))
