-- `check_region` leaves the walk before the next region, or the check's refusal.
-- The loop's invariant: the rest of the check, from the row at `at` on, answers what the whole does. The loop does not hold the trailer, so it is said of
-- every trailer that the block has. Each exit is a law of the walk, over the region and the row that were read on the way to it.
use Prim.Native.Nat.{◌-◌}
use mathlib.Core.Path.{◌≡◌}
use lib.ListN.{length}
use Rattle.layout.specs.Res.{ok}
use Rattle.layout.specs.Trailer.{Trailer, trailer_of}
use Rattle.trailer.specs.Says.{region_from}
use Rattle.block_check_v2.specs.Laws.{Walks}
use Rattle.block_check_v2.proofs.check_region.Given as goal

abbrev pub invariant-loop-at : goal.invariant-loop-at
invariant-loop-at l =
    (length l.key ≡ length l.initial.key) × ((t : Trailer) → trailer_of l.block ≡ ok t → Walks l.block t l.p.region (region_from l.g) l.at l.rows l.seq l.key l.key_len)

abbrev pub decreases-loop-at : goal.decreases-loop-at
decreases-loop-at l = l.g.end - l.at
