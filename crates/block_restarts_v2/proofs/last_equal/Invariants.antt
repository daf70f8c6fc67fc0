-- `last_equal` keeps its promise: the last of the run, with the count handed in.
-- The loop's invariant: the run from the restart before `next` on ends where the run from `first` on ends.
use Prim.Native.Nat.{◌-◌}
use Rattle.layout.proofs.Laws.Seek.{Running}
use Rattle.trailer.specs.Says.{trailer_from}
use Rattle.block_restarts_v2.proofs.last_equal.Given as goal

abbrev pub invariant-loop-next : goal.invariant-loop-next
invariant-loop-next l = Running l.block (trailer_from l.t) l.target l.first (l.next - 1)
