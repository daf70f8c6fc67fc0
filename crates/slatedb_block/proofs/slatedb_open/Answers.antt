-- `slatedb_open` keeps its promise: the number of words and the order first, then the cursor that `open_place` promised, as words.
-- Each exit is one law of `Laws`: the two tests are the definition's first, and the words are stored only where the block opened, from the place of the opened cursor.
use Rattle.basics.specs.Answers.{yes}
use Rattle.row_words.specs.Says.{says_ordered}
use Rattle.row_words.proofs.Laws.{stored}
use Rattle.slatedb_block.proofs.Laws.{opens-short, opens-no-order, opens-good, opens-refused}
use Rattle.slatedb_block.proofs.slatedb_open.Goals as goal

pub returns-then-cursor-ne-CURSOR_WORDS : goal.returns-then-cursor-ne-CURSOR_WORDS
returns-then-cursor-ne-CURSOR_WORDS c = opens-short c.args.block.now c.args.order c.args.cursor.now c.if-cursor-ne-CURSOR_WORDS.true

pub returns-in_default : goal.returns-in_default
returns-in_default c =
    opens-no-order c.args.block.now c.args.order c.args.cursor.now c.if-cursor-ne-CURSOR_WORDS.false (yes says_ordered c.order_in.ensures c.in_default.is)

pub returns-in-Ok : goal.returns-in-Ok
returns-in-Ok c =
    opens-good c.args.block.now c.args.order c.args.cursor.now _ c.in-Some.o c.if-cursor-ne-CURSOR_WORDS.false (yes says_ordered c.order_in.ensures c.in-Some.is) c.open_place-opened.ensures c.in-Ok.is (stored c.if-cursor-ne-CURSOR_WORDS.false c.put_cursor.ensures)

pub returns-in-Err : goal.returns-in-Err
returns-in-Err c =
    opens-refused c.args.block.now c.args.order c.args.cursor.now _ c.in-Some.o c.if-cursor-ne-CURSOR_WORDS.false (yes says_ordered c.order_in.ensures c.in-Some.is) c.open_place-opened.ensures c.in-Err.is c.from.ensures
