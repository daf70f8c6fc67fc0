-- Both walks keep the promise: the number of words and the order first, then the walk from the cursor that `open_place` promised, told as it ended.
-- Each exit is one law.
use Rattle.basics.specs.Answers.{yes}
use Rattle.row_words.specs.Says.{says_ordered}
use Rattle.compare_walks.proofs.Laws.{walks-short, walks-no-order, walks-told, walks-not-opened}
use Rattle.compare_walks.proofs.walk_flat.Goals as goal

pub returns-then-sums-ne-SUMS_WORDS : goal.returns-then-sums-ne-SUMS_WORDS
returns-then-sums-ne-SUMS_WORDS c =
    walks-short c.args.block.now c.args.order c.args.limit c.args.sums.now c.if-sums-ne-SUMS_WORDS.true

pub returns-in_default : goal.returns-in_default
returns-in_default c =
    walks-no-order c.args.block.now c.args.order c.args.limit c.args.sums.now c.if-sums-ne-SUMS_WORDS.false (yes says_ordered c.order_in.ensures c.in_default.is)

pub returns-then-moves : goal.returns-then-moves
returns-then-moves c =
    walks-told c.args.block.now c.args.order c.args.limit c.args.sums.now _ c.in-Some.o c.if-sums-ne-SUMS_WORDS.false (yes says_ordered c.order_in.ensures c.in-Some.is) c.open_place-opened.ensures c.in-Ok.is c.by_value-walked.ensures c.tell.ensures

pub returns-else-moves : goal.returns-else-moves
returns-else-moves c =
    walks-told c.args.block.now c.args.order c.args.limit c.args.sums.now _ c.in-Some.o c.if-sums-ne-SUMS_WORDS.false (yes says_ordered c.order_in.ensures c.in-Some.is) c.open_place-opened.ensures c.in-Ok.is c.in_place-walked.ensures c.tell-in-Ok.ensures

pub returns-in-Err : goal.returns-in-Err
returns-in-Err c =
    walks-not-opened c.args.block.now c.args.order c.args.limit c.args.sums.now _ c.in-Some.o c.if-sums-ne-SUMS_WORDS.false (yes says_ordered c.order_in.ensures c.in-Some.is) c.open_place-opened.ensures c.in-Err.is c.from.ensures
