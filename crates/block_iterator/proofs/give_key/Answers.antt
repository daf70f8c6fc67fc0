-- `give_key` puts what the row shares of the first key at the buffer's start, and its suffix after it.
-- What it requires is that both lie in the data and that the buffer holds them; so the copies are made, and one write after another is one write of both.
use Rattle.block_iterator.proofs.Laws.{two-parts}
use Rattle.block_iterator.proofs.give_key.Goals as goal

pub returns : goal.returns
returns c =
    two-parts _ _ _ c.args.row _ _ c.requires c.copy_in.ensures c.copy_in-2.ensures
