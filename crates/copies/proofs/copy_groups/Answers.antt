use native.Mathlib.Omega.{arith}
use Rattle.copies.proofs.Copies.{copying_start, copying_more, copying_last, copied-length}
use Rattle.copies.proofs.copy_groups.Goals as goal

pub loop-i-init : goal.loop-i-init
loop-i-init c = copying_start _ _ _ (omega arith)

pub loop-i-preserved : goal.loop-i-preserved
loop-i-preserved c =
    copying_more c.requires.1 c.loop-i.invariant c.loop-i-test.true c.copy_8_at.ensures

pub returns : goal.returns
returns c =
    copying_last c.requires.1 c.loop-i.invariant c.requires.0 (omega arith) c.copy_8_at-2.ensures

pub shape_of-buf : goal.shape_of-buf
shape_of-buf c =
    copied-length c.args.buf.now c.args.at c.args.src.now c.requires.1 (returns c)
