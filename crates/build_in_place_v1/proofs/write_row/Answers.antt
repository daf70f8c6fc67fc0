-- `write_row` keeps its promise: the free rest is lent to the encoder, which has room and refuses nothing; what it wrote at the start of the rest is a write at `used` of the whole.
use native.Mathlib.Omega.{arith}
use Rattle.build_in_place_v1.proofs.Writes.{row_wrote, row-refused}
use Rattle.build_in_place_v1.proofs.write_row.Goals as goal

pub returns-in_default : goal.returns-in_default
returns-in_default c = absurd (row-refused _ _ _ _ _ _ c.args.row c.requires c.encode-e.ensures c.in_default.is)

pub overflow_add-result : goal.overflow_add-result
overflow_add-result c = omega (arith, (row_wrote _ _ _ _ _ _ c.args.row c.requires c.encode-e.ensures c.in-Ok.is).room)

pub returns : goal.returns
returns c = row_wrote _ _ _ _ _ _ c.args.row c.requires c.encode-e.ensures c.in-Ok.is
