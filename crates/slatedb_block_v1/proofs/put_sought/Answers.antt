-- `put_sought` answers and leaves by the two cases of whether a row is left: the cursor's words and the count where it is known; a refusal leaves both.
-- There are as many words as required, so the store was made; each exit is one law of `Steps`.
use Rattle.row_words.proofs.Laws.{stored}
use Rattle.slatedb_block_v1.proofs.Steps.{lands, lands-not}
use Rattle.slatedb_block_v1.proofs.put_sought.Goals as goal

pub returns-in-Ok : goal.returns-in-Ok
returns-in-Ok c =
    lands _ c.args.cursor.now _ _ c.args.c _ c.is_empty.ensures c.in-Ok.is c.landed_code.ensures (stored c.requires c.put_cursor.ensures)

pub returns-in-Err : goal.returns-in-Err
returns-in-Err c =
    lands-not _ c.args.cursor.now _ _ c.args.c _ c.is_empty.ensures c.in-Err.is c.from.ensures
