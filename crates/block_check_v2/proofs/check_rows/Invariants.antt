-- `check_rows` answers what the check of the rows does, or that the longest key has no room.
-- The loop's invariant: the rest of the check, from the region at `p` on, answers what the whole does. It ends at the data's end, with the number of rows.
use Prim.Native.Nat.{◌-◌}
use mathlib.Core.Path.{◌≡◌}
use lib.ListN.{length}
use Rattle.trailer.specs.Says.{trailer_from}
use Rattle.block_check_v2.specs.Walk.{Stands}
use Rattle.block_check_v2.proofs.check_rows.Given as goal

abbrev pub invariant-loop-p : goal.invariant-loop-p
invariant-loop-p l = (length l.key ≡ length l.initial.key) × Stands l.block (trailer_from l.t) l.p l.key

abbrev pub decreases-loop-p : goal.decreases-loop-p
decreases-loop-p l = l.size - l.p.at
