-- `put_varint` keeps its promise. The loop's invariant: the bytes of what is left of the number, stored from `i` on, make the buffer that is
-- wanted, and end where the whole number's bytes end. A store and a step take it on; the last byte ends it.
use Prim.Native.Nat.{ℕ, ◌+◌, ◌*◌, ◌^◌, ◌≤◌, ◌<◌}
use mathlib.Core.Path.{◌≡◌}
use mathlib.Core.List.{List}
use lib.ListN.{length}
use lib.Seq.{sets}
use Rattle.layout.specs.Varint.{varint, varint_in}
use Rattle.utils.proofs.put_varint.Given as goal

-- `done` is the buffer that is wanted, `end` the place after the number, `size` the buffer's length; `more` bytes may follow the next one
pub record Going (done : List ℕ) (end size : ℕ) (buf : List ℕ) (rest i : ℕ) : Type 0 where
  pub more : ℕ
  pub small : rest < 16 * 128 ^ more
  pub makes : sets buf i (varint_in more rest) ≡ done
  pub ends : i + length (varint_in more rest) ≡ end
  pub same : length buf ≡ size
  pub fits : end ≤ size

abbrev pub invariant-loop-rest : goal.invariant-loop-rest
invariant-loop-rest l = Going (sets l.initial.buf l.at (varint l.v)) (l.at + length (varint l.v)) (length l.initial.buf) l.buf l.rest l.i

abbrev pub decreases-loop-rest : goal.decreases-loop-rest
decreases-loop-rest l = l.rest
