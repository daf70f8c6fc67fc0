-- Decoding keeps its promise: the number of words first, then the row that `decode` promised, as words.
-- Each exit is one law of `Rows`.
use Rattle.row_words.proofs.Laws.{stored}
use Rattle.slatedb_block.proofs.Rows.{decodes-short, decodes-good, decodes-refused}
use Rattle.slatedb_block.proofs.slatedb_decode.Goals as goal

pub returns-then-row-ne-SINGLE_WORDS : goal.returns-then-row-ne-SINGLE_WORDS
returns-then-row-ne-SINGLE_WORDS c = decodes-short _ _ c.args.row.now c.if-row-ne-SINGLE_WORDS.true

pub returns-in-Err : goal.returns-in-Err
returns-in-Err c =
    decodes-refused _ _ c.args.row.now _ c.if-row-ne-SINGLE_WORDS.false c.decode.ensures c.in-Err.is c.from.ensures

pub returns-in-Ok : goal.returns-in-Ok
returns-in-Ok c =
    decodes-good _ _ c.args.row.now _ c.if-row-ne-SINGLE_WORDS.false c.decode.ensures c.in-Ok.is (stored c.if-row-ne-SINGLE_WORDS.false c.put_single.ensures)
