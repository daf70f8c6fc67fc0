-- `walk_down` keeps the promise of the walk down from region to region: what is left of it, from the region at hand, answers what the whole does.
-- Each exit is a law over where the last row at or below the target ends in that region.
use Prim.Native.Nat.{◌≤◌}
use Rattle.trailer.specs.Says.{trailer_from}
use Rattle.seek_in_place_v2.proofs.Walks.{FallsTo}
use Rattle.seek_in_place_v2.proofs.walk_down.Given as goal

abbrev pub invariant-loop-index : goal.invariant-loop-index
invariant-loop-index l = FallsTo l.block (trailer_from l.t) l.target l.start.region l.index × (l.index ≤ l.t.count)
