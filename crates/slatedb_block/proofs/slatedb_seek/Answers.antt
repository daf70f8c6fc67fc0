-- `slatedb_seek` hands on to `seek` of `seek_words`, which keeps its promise. It is written out, though it would be found, so that a wrong answer is refused with
-- no search for a proof of it.
use Rattle.slatedb_block.proofs.slatedb_seek.Goals as goal

pub returns : goal.returns
returns c = c.seek.ensures
