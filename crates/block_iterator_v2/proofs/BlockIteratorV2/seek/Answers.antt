-- `seek` keeps its promise: the seek over its order and its key is the rules' own, and the place that it gives back is put into the cursor.
-- One law takes the promise of that seek over to the whole cursor.
use Rattle.block_iterator_v2.proofs.Laws.{seeks-put}
use Rattle.block_iterator_v2.proofs.BlockIteratorV2.seek.Goals as goal

pub returns : goal.returns
returns c = seeks-put c.args.self _ _ _ c.seek_in_array-found.ensures c.place_sought-left.ensures c.answer_sought.ensures
