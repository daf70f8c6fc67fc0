-- `walk_place` keeps its promise.
-- The loop's invariant: the rows from `at` on, read after a key of `len` bytes that begins with `matched` bytes in common with the target and is below it, stop
-- where all of the region do; rows from `from` on, which shares no more than the match there, lead to it; and `number` rows were read.
use Prim.Native.Nat.{◌-◌}
use lib.ListN.{length}
use Rattle.layout.specs.Laws.Number.{Counting}
use Rattle.trailer.specs.Says.{region_from}
use Rattle.block_regions_v2.specs.Climb.{Climbing}
use Rattle.block_regions_v2.proofs.walk_place.Given as goal

abbrev pub invariant-loop-at : goal.invariant-loop-at
invariant-loop-at l =
    Climbing l.data (region_from l.region) l.target (length l.data) l.at l.matched l.len l.from l.from_len × Counting l.data (region_from l.region) l.at l.len l.number

abbrev pub decreases-loop-at : goal.decreases-loop-at
decreases-loop-at l = l.region.end - l.at
