-- `copy_1` keeps its promise: one store is one write (`all-copied`).
use Rattle.copies.proofs.Copies.{all-copied}
use Rattle.step_plain_v2.proofs.copy_1.Goals as goal

pub returns : goal.returns
returns c = all-copied 0 c.args.src.now c.args.from c.args.buf.now c.args.at c.requires.0 c.requires.1
