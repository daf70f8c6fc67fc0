-- `offsets_rise` keeps its promise: all of 15 in one pass.
-- The first offset is tested before the loop. The loop's invariant: the offsets from `r` on, if the first of them is to be
-- above `previous`, answer what all of them answer.
use Prim.Native.Nat.{◌+◌}
use Rattle.layout.specs.Trailer.{trailer_is}
use Rattle.layout.specs.Laws.Trailer.{RisesFrom}
use Rattle.trailer.proofs.offsets_rise.Given as goal

abbrev pub invariant-loop-r : goal.invariant-loop-r
invariant-loop-r l = RisesFrom l.block (trailer_is l.count l.size) l.r (l.previous + 1)
