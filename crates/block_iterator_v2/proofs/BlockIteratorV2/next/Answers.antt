-- `next` keeps its promise: the step over its numbers and its key is the rules' own, and the place that it gives back is put into the cursor.
-- One law takes the promise of that step over to the whole cursor.
use Rattle.block_iterator_v2.proofs.Laws.{steps-put}
use Rattle.block_iterator_v2.proofs.BlockIteratorV2.next.Goals as goal

pub returns : goal.returns
returns c =
    steps-put c.args.self _ _ _ _ c.next_in_array-moved.ensures c.place_after-place.ensures c.answer_of.ensures
