-- `reach` keeps its promise.
-- The loop's invariant: the rows from `at` on, read after a key of `len` bytes, answer what all of the region do; what is known of where that key stands; and
-- `number` rows were read.
use Prim.Native.Nat.{◌-◌}
use Rattle.layout.specs.Laws.Number.{Counting}
use Rattle.trailer.specs.Says.{region_from}
use Rattle.block_regions_v2.specs.Parts.{Reaching}
use Rattle.block_regions_v2.proofs.reach.Given as goal

abbrev pub invariant-loop-row : goal.invariant-loop-row
invariant-loop-row l = Reaching l.data (region_from l.region) l.stop l.at l.len l.known × Counting l.data (region_from l.region) l.at l.len l.number

abbrev pub decreases-loop-row : goal.decreases-loop-row
decreases-loop-row l = l.stop - l.at
