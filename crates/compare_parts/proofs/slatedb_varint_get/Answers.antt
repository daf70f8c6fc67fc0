-- A varint read keeps its promise: the number of words first, then the number and the place that `decode_varint` promised.
-- Each exit is one law.
use Rattle.compare_parts.proofs.Laws.{reads_short, reads-good, reads-refused}
use Rattle.compare_parts.proofs.slatedb_varint_get.Goals as goal

pub returns-then-words-ne-VARINT_WORDS : goal.returns-then-words-ne-VARINT_WORDS
returns-then-words-ne-VARINT_WORDS c = reads_short _ _ c.args.words.now c.if-words-ne-VARINT_WORDS.true

pub returns-in-Err : goal.returns-in-Err
returns-in-Err c =
    reads-refused _ _ c.args.words.now _ c.if-words-ne-VARINT_WORDS.false c.decode_varint.ensures c.in-Err.is c.from.ensures

pub returns-in-Ok : goal.returns-in-Ok
returns-in-Ok c =
    reads-good _ _ c.args.words.now _ c.if-words-ne-VARINT_WORDS.false c.decode_varint.ensures c.in-Ok.is
