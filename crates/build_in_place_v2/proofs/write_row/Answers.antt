-- `write_row` keeps its promise. A row whose flags are 0 is plain, and written as such. Any other: the free rest is lent to the encoder, which has room and refuses nothing; what it
-- wrote at the start of the rest is a write at `used` of the whole.
use native.Mathlib.Omega.{arith}
use Rattle.layout.proofs.Laws.Splice.{wrote_as}
use Rattle.build_in_place_v2.proofs.Plain.{plain-bytes, plain_fits}
use Rattle.build_in_place_v2.proofs.Writes.{row_wrote, row-refused}
use mathlib.Core.Path.{sym}
use Rattle.build_in_place_v2.proofs.write_row.Goals as goal

pub write_plain-requires : goal.write_plain-requires
write_plain-requires c = plain_fits c.args.row c.flags.ensures c.if-flags-eq0.true c.requires

pub returns-then-flags-eq0 : goal.returns-then-flags-eq0
returns-then-flags-eq0 c = wrote_as (sym (plain-bytes c.args.row c.flags.ensures c.if-flags-eq0.true _ _ _)) c.write_plain.ensures

pub returns-in_default : goal.returns-in_default
returns-in_default c = absurd (row-refused _ _ _ _ _ _ c.args.row c.requires c.encode-e.ensures c.in_default.is)

pub overflow_add-result : goal.overflow_add-result
overflow_add-result c =
    let w = row_wrote _ _ _ _ _ _ c.args.row c.requires c.encode-e.ensures c.in-Ok.is in
    omega (arith, w.room)

pub returns : goal.returns
returns c = row_wrote _ _ _ _ _ _ c.args.row c.requires c.encode-e.ensures c.in-Ok.is
