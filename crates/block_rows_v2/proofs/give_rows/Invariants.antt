-- `give_rows` keeps its promise: so many steps were made, with all keys and all words written one after another (`Gone`).
-- The plain rows of a region take that on, and so does one more step, or it ends the call.
use Prim.Native.Nat.{◌-◌, ◌≤◌}
use mathlib.Core.Path.{◌≡◌}
use mathlib.Core.Bool.{false}
use lib.ListN.{length}
use Rattle.layout.specs.Limits.{max_key}
use Rattle.place_v2.specs.Says.{view_in}
use Rattle.block_rows_v2.specs.Chain.{Gone}
use Rattle.block_rows_v2.proofs.give_rows.Given as goal

abbrev pub invariant-loop-here : goal.invariant-loop-here
invariant-loop-here l =
    Gone l.block l.initial.keys l.initial.rows (view_in l.initial.here.place l.initial.key) (view_in l.here.place l.key) l.keys l.rows l.here.used l.here.count × (l.here.count ≤ l.most) × (length l.key ≡ max_key) × (l.here.count ≡ 0 → l.key ≡ l.initial.key) × (l.here.ended ≡ false)

abbrev pub decreases-loop-here : goal.decreases-loop-here
decreases-loop-here l = l.most - l.here.count
