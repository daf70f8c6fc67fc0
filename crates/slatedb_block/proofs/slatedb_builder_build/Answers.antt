-- Building keeps its promise: what is built of the numbers in the words, whatever the last key's bytes are, which are not lent.
-- Each exit is one law of `Laws`.
use Rattle.builder_words.proofs.Laws.{state-none, state-counts, state-is}
use Rattle.slatedb_block.proofs.Laws.{builds-short, builds-block, builds-refused}
use Rattle.slatedb_block.proofs.slatedb_builder_build.Goals as goal

pub returns-in_default : goal.returns-in_default
returns-in_default c =
    builds-short c.args.builder.now _ _ _ (state-none c.args.builder.now (rw c.in_default.is at c.state_in.ensures))

pub returns-in-Ok : goal.returns-in-Ok
returns-in-Ok c =
    builds-block c.args.builder.now _ _ _ _ _ (state-counts c.args.builder.now (rw c.in-Some.is at c.state_in.ensures)) (rw (state-is c.args.builder.now (rw c.in-Some.is at c.state_in.ensures)) at c.build_in_place.ensures) c.in-Ok.is

pub returns-in-Err : goal.returns-in-Err
returns-in-Err c =
    builds-refused c.args.builder.now _ _ _ _ _ (state-counts c.args.builder.now (rw c.in-Some.is at c.state_in.ensures)) (rw (state-is c.args.builder.now (rw c.in-Some.is at c.state_in.ensures)) at c.build_in_place.ensures) c.in-Err.is c.from.ensures
