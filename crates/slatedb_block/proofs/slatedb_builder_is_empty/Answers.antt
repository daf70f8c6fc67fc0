-- `slatedb_builder_is_empty` keeps its promise: 254 for words of another number, else 0 and whether there is no row.
-- The answer doesn't depend on the last key's bytes, which are not lent: `is_empty_state` tells this whatever they are, and its counter is the one in the words.
use mathlib.Core.List.{[]}
use Rattle.builder_words.proofs.Laws.{state-none, state-counts, state-is}
use Rattle.slatedb_block.proofs.Laws.{empties-short, empties}
use Rattle.slatedb_block.proofs.slatedb_builder_is_empty.Goals as goal

pub returns-in_default : goal.returns-in_default
returns-in_default c =
    empties-short c.args.builder.now _ (state-none c.args.builder.now (rw c.in_default.is at c.state_in.ensures))

pub returns : goal.returns
returns c =
    empties c.args.builder.now _ _ _ (state-counts c.args.builder.now (rw c.in-Some.is at c.state_in.ensures)) (rw (state-is c.args.builder.now (rw c.in-Some.is at c.state_in.ensures)) at (c.is_empty_state.ensures [])) c.truth_word.ensures
