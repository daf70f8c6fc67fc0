-- `write_plain` writes three lengths, the suffix, the value, the sequence number and flags of 0, one after another. Room for the row is room for each part where the one before it
-- ended, so each writer wrote.
use native.Mathlib.Omega.{arith}
use Rattle.layout.proofs.Laws.Splice.{wrote-length}
use Rattle.build_in_place_v2.proofs.Plain.{first-room, second-room, third-room, cut-length, body-room, ends-room, flags-room, body-wrote, plain-wrote}
use Rattle.build_in_place_v2.proofs.write_plain.Goals as goal

pub put_length-a-requires : goal.put_length-a-requires
put_length-a-requires c = (omega (arith, c.requires.own, c.requires.key-small), first-room c.requires)

pub put_length-b-requires : goal.put_length-b-requires
put_length-b-requires c = (omega (arith, c.requires.key-small), second-room c.requires c.put_length-a.ensures)

pub put_length-c-requires : goal.put_length-c-requires
put_length-c-requires c = (c.requires.value-small, third-room c.requires c.put_length-a.ensures c.put_length-b.ensures)

pub overflow_add-d : goal.overflow_add-d
overflow_add-d c = omega (arith, ends-room c.requires c.put_length-a.ensures c.put_length-b.ensures c.put_length-c.ensures)

pub overflow_add-e : goal.overflow_add-e
overflow_add-e c = omega (arith, ends-room c.requires c.put_length-a.ensures c.put_length-b.ensures c.put_length-c.ensures)

pub overflow_add-data : goal.overflow_add-data
overflow_add-data c =
    let e = flags-room _ _ _ _ _ _ (cut-length c.requires) (body-room c.requires c.put_length-a.ensures c.put_length-b.ensures c.put_length-c.ensures) c.copy_in.ensures c.copy_in-2.ensures c.put_u64.ensures in
    omega (arith, e)

pub bounds-data-e : goal.bounds-data-e
bounds-data-e c =
    let e = flags-room _ _ _ _ _ _ (cut-length c.requires) (body-room c.requires c.put_length-a.ensures c.put_length-b.ensures c.put_length-c.ensures) c.copy_in.ensures c.copy_in-2.ensures c.put_u64.ensures in
    e

pub overflow_add-result : goal.overflow_add-result
overflow_add-result c =
    let e = flags-room _ _ _ _ _ _ (cut-length c.requires) (body-room c.requires c.put_length-a.ensures c.put_length-b.ensures c.put_length-c.ensures) c.copy_in.ensures c.copy_in-2.ensures c.put_u64.ensures in
    omega (arith, e)

pub returns : goal.returns
returns c =
    let e = body-wrote _ _ _ _ _ _ (cut-length c.requires) (body-room c.requires c.put_length-a.ensures c.put_length-b.ensures c.put_length-c.ensures) c.copy_in.ensures c.copy_in-2.ensures c.put_u64.ensures in
    plain-wrote c.requires c.put_length-a.ensures c.put_length-b.ensures c.put_length-c.ensures e

pub shape_of-data : goal.shape_of-data
shape_of-data c = wrote-length (returns c)
