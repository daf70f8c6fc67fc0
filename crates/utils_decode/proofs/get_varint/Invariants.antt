-- `get_varint` keeps its promise. The loop's invariant is the definitions' `Reading`: i bytes are read, one at least, their number is acc, and the next byte
-- weighs w. Each thing that the loop does is one of its laws.
use Prim.Native.Nat.{◌≤◌}
use Rattle.layout.proofs.Laws.Varint.{Reading}
use Rattle.utils_decode.proofs.get_varint.Given as goal

abbrev pub invariant-loop-i : goal.invariant-loop-i
invariant-loop-i l = Reading l.s l.at l.acc l.w l.i × (1 ≤ l.i)
