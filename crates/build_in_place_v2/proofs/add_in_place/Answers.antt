-- `add_in_place` keeps its promise: bytes that are not a last key's are 18, what the tests refuse is refused, both with nothing written; what they accept is grown by.
-- All tests come before all writes, so a refusal leaves the three lent arrays as they came, and it is the one that `accept_row` tells; a row that passed them is what `grow` requires
-- (`tested-is`), and what `grow` leaves is wanted.
use mathlib.Core.Path.{refl}
use Rattle.build_in_place_v2.proofs.Finds.{refusal-told}
use Rattle.build_in_place_v2.proofs.Writes.{tested-is, grows_strange, grows-refused, grows}
use Rattle.build_in_place_v2.proofs.add_in_place.Goals as goal

pub returns-in_default : goal.returns-in_default
returns-in_default c = grows_strange _ _ _ _ _ _ c.in_default.ensures.1

pub returns-in_default-find_row : goal.returns-in_default-find_row
returns-in_default-find_row c =
    let w = c.in-Ok.ensures.1 in
    grows-refused _ _ _ _ _ _ w.long
    (refusal-told c.accept_row-planned.result (rw w.same at (c.accept_row-planned.ensures _ refl)) (rw w.same at (c.in_default-find_row.ensures _ refl)) c.refusal_of.ensures)

pub grow-requires : goal.grow-requires
grow-requires c =
    let w = c.in-Ok.ensures.1 in
    record { last_key_len = w.long; tested = tested-is _ _ _ _ _ (rw w.same at (c.in-Some.ensures _ refl)) }

pub returns : goal.returns
returns c =
    let w = c.in-Ok.ensures.1 in
    grows _ _ _ _ _ _ w.long (tested-is _ _ _ _ _ (rw w.same at (c.in-Some.ensures _ refl))) c.grow.ensures
