-- `put_be` keeps its promise. The loop's invariant: the lowest `n - i` bytes, stored from `at + i` on, make the buffer that is wanted. Each turn
-- stores the highest of them, which is the definition's first byte.
use Prim.Native.Nat.{◌+◌, ◌-◌, ◌≤◌}
use mathlib.Core.Path.{◌≡◌}
use lib.ListN.{length}
use lib.Seq.{sets}
use Rattle.layout.specs.Fixed.{big}
use Rattle.buf_mut.proofs.put_be.Given as goal

abbrev pub invariant-loop-i : goal.invariant-loop-i
invariant-loop-i l = (sets l.buf (l.at + l.i) (big (l.n - l.i) l.v) ≡ sets l.initial.buf l.at (big l.n l.v)) × (length l.buf ≡ length l.initial.buf)
