-- `slatedb_next_rows` hands on to `next_rows` of `block_rows_v2`, which keeps its promise. It is written out, though it would be found, so that a wrong answer is refused with
-- no search for a proof of it.
use Rattle.slatedb_block.proofs.slatedb_next_rows.Goals as goal

pub returns : goal.returns
returns c = c.next_rows.ensures
