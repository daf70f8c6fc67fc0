-- `common_groups` keeps its promise: its answer, and what the keys have in common from there on, is what they have in common.
-- Each turn compares eight bytes of both as one number (`begins-eight`); that each element is a byte is known since the lengths were asked for.
use Prim.Native.Nat.{◌-◌, ◌≤◌}
use lib.ListN.{length}
use Rattle.layout.specs.Laws.Words.{Begins}
use Rattle.keys.proofs.common_groups.Given as goal

abbrev pub invariant-loop-n : goal.invariant-loop-n
invariant-loop-n l = Begins l.a l.b l.n × (l.n ≤ length l.a)

abbrev pub decreases-loop-n : goal.decreases-loop-n
decreases-loop-n l = length l.a - l.n
