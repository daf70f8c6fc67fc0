-- `new` keeps its promise: what `open` answers, beside a cursor that has passed no row.
use Rattle.block_iterator.proofs.Laws.{opens}
use Rattle.block_iterator.proofs.BlockIterator.new.Goals as goal

pub returns : goal.returns
returns c = opens _ _ _ c.open.ensures
