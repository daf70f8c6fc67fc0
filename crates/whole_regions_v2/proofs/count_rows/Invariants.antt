-- `count_rows` keeps its promise.
-- The loop's invariant: the rows from `at` on, read after a key of `len` bytes, answer what all of the region do; and `rows` rows were read.
use Prim.Native.Nat.{◌-◌}
use Rattle.layout.specs.Laws.Number.{Counting}
use Rattle.trailer.specs.Says.{region_from}
use Rattle.block_regions_v2.specs.Known.{known_is}
use Rattle.block_regions_v2.specs.Parts.{Reaching}
use Rattle.whole_regions_v2.proofs.count_rows.Given as goal

abbrev pub invariant-loop-row : goal.invariant-loop-row
invariant-loop-row l =
    Reaching l.data (region_from l.region) l.region.end l.at l.len (known_is 0 0 0 0) × Counting l.data (region_from l.region) l.at l.len l.rows

abbrev pub decreases-loop-row : goal.decreases-loop-row
decreases-loop-row l = l.region.end - l.at
