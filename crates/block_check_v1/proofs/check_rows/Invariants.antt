-- `check_rows` answers what the check of the rows does.
-- The loop's invariant: the rest of the check, from row `r` on, answers what the whole does. It ends with the last row.
use Rattle.trailer.specs.Says.{trailer_from}
use Rattle.block_check_v1.specs.Walk.{Stands}
use Rattle.block_check_v1.proofs.check_rows.Given as goal

abbrev pub invariant-loop-r : goal.invariant-loop-r
invariant-loop-r l = Stands l.block (trailer_from l.t) l.r l.p
