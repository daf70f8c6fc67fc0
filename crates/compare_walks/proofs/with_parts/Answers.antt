-- `with_parts` answers the sum with a row more, as 64 bits hold it.
-- The wrapping sums of its parts are the sum of the parts, wrapped once (`row-added`). The key has a byte and lies inside its buffer, as required, so its last byte is there to be read.
use Rattle.compare_walks.proofs.Laws.{row-added}
use Rattle.compare_walks.proofs.with_parts.Goals as goal

pub returns : goal.returns
returns c =
    row-added c.args.sum c.args.seq c.args.held c.args.key.now c.args.n c.requires.0 c.requires.1
    c.wrapping_add_u64-lengths.ensures.value c.from.ensures c.wrapping_add_u64-named.ensures.value c.wrapping_add_u64.ensures.value c.wrapping_add_u64-2.ensures.value
