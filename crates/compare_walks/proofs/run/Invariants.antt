-- `run` keeps its promise: each turn goes past a plain row of the region, so the walk that was under way is, and the cursor goes on in the region until its end.
use Rattle.std.proofs.Common.{◌≡◌, ◌-◌, ◌≤◌, length}
use Rattle.layout.specs.Res.{Res}
use Rattle.layout.specs.Limits.{max_key}
use Rattle.trailer.specs.Says.{region_from}
use Rattle.place_v2.specs.Says.{view_in}
use Rattle.region_rows_v2.specs.Bounds.{Inside}
use Rattle.compare_walks.specs.Walk.{Walk}
use Rattle.compare_walks.specs.Loop.{Walking}
use Rattle.compare_walks.proofs.run.Given as goal

abbrev pub invariant-loop-rows : goal.invariant-loop-rows
invariant-loop-rows l =
    ((want : Res Walk) → Walking want l.block l.limit (view_in l.initial.p l.initial.key) l.initial.rows l.initial.sum → Walking want l.block l.limit (view_in l.p l.key) l.rows l.sum) × Inside l.block l.size (region_from l.g) (view_in l.p l.key) × (length l.key ≡ max_key) × (l.initial.rows ≤ l.rows)

abbrev pub decreases-loop-rows : goal.decreases-loop-rows
decreases-loop-rows l = l.limit - l.rows
