-- `give_key` puts the first bytes of the key at the buffer's start.
-- What it requires is room; so the copy is made.
use mathlib.Core.Path.{sym}
use native.Mathlib.Omega.{arith}
use lib.Seq.{length-take-le}
use Rattle.buf_mut.proofs.Laws.{copied}
use Rattle.step_in_place_v2.proofs.give_key.Goals as goal

pub slice_bounds-copy_in-end : goal.slice_bounds-copy_in-end
slice_bounds-copy_in-end c = sym (length-take-le _ _ c.requires.0)

pub returns : goal.returns
returns c =
    copied (rw (length-take-le c.args.n c.args.key.now c.requires.0) (omega arith)) c.copy_in.ensures
