-- `copy_each` keeps its promise: all of `src` at `at`.
-- The loop's invariant: what is left of `src`, stored from `at + i` on, makes the buffer that is wanted.
use Prim.Native.Nat.{◌+◌}
use mathlib.Core.Path.{◌≡◌}
use lib.ListN.{length, drop}
use lib.Seq.{sets}
use Rattle.copies.proofs.copy_each.Given as goal

abbrev pub invariant-loop-i : goal.invariant-loop-i
invariant-loop-i l = (sets l.buf (l.at + l.i) (drop l.i l.src) ≡ sets l.initial.buf l.at l.src) × (length l.buf ≡ length l.initial.buf)
