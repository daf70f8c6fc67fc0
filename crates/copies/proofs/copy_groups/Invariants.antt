-- `copy_groups` keeps its promise: all of `src` at `at`. The loop's record (`Copying`): the first i bytes are written, and some are left. The last group starts before the
-- place where the loop stopped, and goes to the end.
use Prim.Native.Nat.{◌-◌}
use lib.ListN.{length}
use Rattle.copies.proofs.Copies.{Copying}
use Rattle.copies.proofs.copy_groups.Given as goal

abbrev pub invariant-loop-i : goal.invariant-loop-i
invariant-loop-i l = Copying l.initial.buf l.at l.src l.buf l.i

abbrev pub decreases-loop-i : goal.decreases-loop-i
decreases-loop-i l = length l.src - l.i
