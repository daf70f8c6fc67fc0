-- `put_clipped` keeps its promise: nothing is put past the end, and no more than there is room for.
use Prim.Native.Nat.{◌-◌}
use mathlib.Core.Path.{sym}
use native.Mathlib.Omega.{arith}
use lib.ListN.{length, length-take}
use lib.Seq.{length-take-le}
use Rattle.buf_mut.proofs.Laws.{copied}
use Rattle.block_regions_v2.specs.Rows.{clipped-none, clipped-part, clipped-whole}
use Rattle.block_regions_v2.proofs.put_clipped.Goals as goal

pub returns-then-key-at : goal.returns-then-key-at
returns-then-key-at c = clipped-none _ _ _ c.if-key-at.true

pub slice_bounds-copy_in-end : goal.slice_bounds-copy_in-end
slice_bounds-copy_in-end c = sym (length-take-le _ _ (omega arith))

pub returns-then-room-src : goal.returns-then-room-src
returns-then-room-src c = let a = c.args in clipped-part _ _ _ c.if-key-at.false (copied (rw (length-take (length a.key.now - a.at) a.src.now) (omega arith)) c.copy_in.ensures)

pub returns : goal.returns
returns c = clipped-whole _ _ _ c.if-key-at.false c.if-room-src.false (copied (omega arith) c.copy_in-2.ensures)
