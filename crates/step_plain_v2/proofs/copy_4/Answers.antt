-- `copy_4` keeps its promise: the parts that are lent have four bytes, so that all are copied (`part-copied`).
use Rattle.copies.proofs.Copies.{part-copied}
use Rattle.step_plain_v2.proofs.copy_4.Goals as goal

pub returns : goal.returns
returns c =
    part-copied 4 c.args.buf.now c.args.src.now c.args.at c.args.from c.requires.0 c.requires.1 c.copy_4.ensures
