-- `slatedb_builder_new` keeps its promise: the words are those of the new builder's view, and 254 or 8 leaves them as they were.
-- Their number is tested first, so that `put_state` does store, and what it stores are the numbers that `new_state` promised; each exit is one law of `Laws`.
use Rattle.row_words.proofs.Laws.{stored}
use Rattle.slatedb_block.proofs.Laws.{makes-short, makes-good, makes-refused}
use Rattle.slatedb_block.proofs.slatedb_builder_new.Goals as goal

pub returns-then-builder-ne-BUILDER_WORDS : goal.returns-then-builder-ne-BUILDER_WORDS
returns-then-builder-ne-BUILDER_WORDS c = makes-short c.args.builder.now _ _ c.if-builder-ne-BUILDER_WORDS.true

pub returns-in-Ok : goal.returns-in-Ok
returns-in-Ok c =
    makes-good c.args.builder.now _ _ _ c.if-builder-ne-BUILDER_WORDS.false c.new_state-new.ensures c.in-Ok.is (stored c.if-builder-ne-BUILDER_WORDS.false c.put_state.ensures)

pub returns-in-Err : goal.returns-in-Err
returns-in-Err c =
    makes-refused c.args.builder.now _ _ _ c.if-builder-ne-BUILDER_WORDS.false c.new_state-new.ensures c.in-Err.is c.from.ensures
