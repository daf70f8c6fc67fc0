-- `common_prefix` keeps its promise: how many bytes both keys begin with.
-- The loop's invariant: n, and what the keys have in common from byte n on, is what they have in common.
use Prim.Native.Nat.{◌-◌}
use lib.ListN.{length}
use Rattle.layout.specs.Laws.Words.{Begins}
use Rattle.keys.proofs.common_prefix.Given as goal

abbrev pub invariant-loop-n : goal.invariant-loop-n
invariant-loop-n l = Begins l.a l.b l.n

abbrev pub decreases-loop-n : goal.decreases-loop-n
decreases-loop-n l = length l.a - l.n
