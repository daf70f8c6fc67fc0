-- `walk_rows` keeps its promise: whatever walk was under way still is, past the plain rows of a region and past a step.
-- It ends with a step that finds no row, or at the limit; or it stops before a step for whose key there is no room.
use Rattle.std.proofs.Common.{◌≡◌, ◌-◌, length}
use Rattle.compare_walks.specs.Loop.{RunsOn}
use Rattle.compare_walks.proofs.walk_rows.Given as goal

abbrev pub invariant-loop-here : goal.invariant-loop-here
invariant-loop-here l = RunsOn l.block l.limit l.initial.here l.initial.carried l.here l.carried × (length l.carried ≡ length l.initial.carried) × (length l.out ≡ length l.initial.out)

abbrev pub decreases-loop-here : goal.decreases-loop-here
decreases-loop-here l = l.limit - l.here.rows
