use Prim.Native.Nat.{◌-◌}
use mathlib.Core.Path.{sym}
use native.Mathlib.Omega.{arith}
use lib.Seq.{length-take-le}
use Rattle.buf_mut.proofs.Laws.{copied}
use Rattle.block_regions_v2.specs.Laws.{part-most, shared_filling, shared-read, shared-put}
use Rattle.block_regions_v2.proofs.put_shared.Goals as goal

-- `put_shared` keeps its promise: where the bytes are known to stand they are copied, in one part or two; else the rows are read again.

pub slice_bounds-rebuild_key-end-then-k-shared : goal.slice_bounds-rebuild_key-end-then-k-shared
slice_bounds-rebuild_key-end-then-k-shared c =
    sym (length-take-le _ _ c.requires.shared_in_bounds)

pub returns-then-k-shared : goal.returns-then-k-shared
returns-then-k-shared c =
    λ before st few. shared-read _ _ _ c.args.out.now _ c.requires.shared_in_bounds before st few (c.rebuild_key.ensures before (shared_filling _ _ _ c.args.out.now _ c.requires.shared_in_bounds before st few))

pub returns : goal.returns
returns c =
    let k = c.args.there.known in
    λ before st few. shared-put _ _ _ c.args.out.now _ c.requires.shared_in_bounds before st few c.if-k-shared.false c.least-n.ensures (copied (omega (arith, part-most c.args.data.now k.first c.least-n.result)) c.copy_in.ensures) (copied (omega (arith, part-most c.args.data.now k.second (c.args.shared - c.least-n.result))) c.copy_in-2.ensures)
