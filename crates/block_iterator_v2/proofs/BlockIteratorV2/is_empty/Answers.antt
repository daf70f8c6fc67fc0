-- `is_empty` answers what `is_empty_place` does of the cursor's place, which tells this whatever the key's bytes are.
use Rattle.block_iterator_v2.proofs.BlockIteratorV2.is_empty.Goals as goal

pub returns : goal.returns
returns c = c.is_empty_place.ensures _
