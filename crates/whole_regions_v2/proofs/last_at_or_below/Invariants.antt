-- `last_at_or_below` keeps its promise.
-- The loop's invariant: the rows from `at` on, read after a key of `len` bytes that begins with `matched` bytes in common with the target, and that the target is below or not, answer what all of the region do;
-- `number` rows were read, and `best-number` of them end at or before `best`.
use Prim.Native.Nat.{◌-◌}
use mathlib.Core.Path.{◌≡◌}
use lib.ListN.{length}
use Rattle.layout.specs.Number.{ended_by}
use Rattle.layout.specs.Laws.Number.{Counting}
use Rattle.layout.proofs.Laws.MatchWalk.{MatchingDown}
use Rattle.trailer.specs.Says.{region_from}
use Rattle.whole_regions_v2.proofs.last_at_or_below.Given as goal

abbrev pub invariant-loop-at : goal.invariant-loop-at
invariant-loop-at l =
    MatchingDown l.data (region_from l.region) l.target (length l.data) l.at l.matched l.len l.best l.above × Counting l.data (region_from l.region) l.at l.len l.number × (ended_by l.data (region_from l.region) l.best ≡ l.best_number)

abbrev pub decreases-loop-at : goal.decreases-loop-at
decreases-loop-at l = l.region.end - l.at
