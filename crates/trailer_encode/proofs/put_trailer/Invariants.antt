-- `put_trailer` keeps its promise: the trailer's bytes, or 6 and an untouched buffer.
-- The loop's invariant: the first `i` offsets are written, and `next` is the place after them. Writes that follow one another are one write; the room
-- was tested, so none is refused.
use Prim.Native.Nat.{ℕ, ◌+◌, ◌*◌, ◌≤◌}
use mathlib.Core.Path.{◌≡◌}
use mathlib.Core.List.{List}
use lib.ListN.{take}
use Rattle.layout.specs.Block.{offset_bytes}
use Rattle.layout.specs.Laws.Splice.{Wrote}
use Rattle.trailer_encode.proofs.put_trailer.Given as goal

-- i of n offsets are written
pub record Laying (os start : List ℕ) (at n : ℕ) (buf : List ℕ) (next i : ℕ) : Type 0 where
  pub few : i ≤ n
  pub place : next ≡ at + 2 * i
  pub wrote : Wrote start at (offset_bytes (take i os)) buf next

abbrev pub invariant-loop-offset : goal.invariant-loop-offset
invariant-loop-offset l = Laying l.offset-items l.initial.buf l.at l.n l.buf l.next l.offset-index
