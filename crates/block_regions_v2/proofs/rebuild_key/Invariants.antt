use mathlib.Core.Path.{◌≡◌}
use lib.ListN.{length}
use Prim.Native.Nat.{◌-◌}
use Rattle.layout.specs.Key.{Key}
use Rattle.trailer.specs.Says.{region_from}
use Rattle.block_regions_v2.specs.Rows.{Filling}
use Rattle.block_regions_v2.proofs.rebuild_key.Given as goal

abbrev pub invariant-loop-at : goal.invariant-loop-at
invariant-loop-at l = ((wanted : Key) → Filling l.data (region_from l.region) l.stop wanted l.initial.key l.from l.from_len → Filling l.data (region_from l.region) l.stop wanted l.key l.at l.len) × (length l.key ≡ length l.initial.key)

abbrev pub decreases-loop-at : goal.decreases-loop-at
decreases-loop-at l = l.stop - l.at
