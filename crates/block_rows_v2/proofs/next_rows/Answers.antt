-- Many rows in one call keep the promise: the words that mean nothing first, then what `give_rows` gave of the cursor in the words, stored by `put_gave`.
-- Each exit is one law.
use mathlib.Core.Path.{◌≡◌}
use Rattle.layout.specs.Res.{ok}
use Rattle.basics.specs.Answers.{yes}
use Rattle.place_v2.specs.Says.{view_in}
use Rattle.row_words.specs.Words.{cursor_in}
use Rattle.block_words.specs.Says.{says_cursor}
use Rattle.block_words.proofs.Laws.{cursor-counts}
use Rattle.block_rows_v2.proofs.Laws.{rows-no-key, rows-no-cursor, rows-asked, rows-put}
use Rattle.block_rows_v2.proofs.next_rows.Goals.{In-Some}
use Rattle.block_rows_v2.proofs.next_rows.Goals as goal

cursor-read : (k : In-Some) → cursor_in k.args.cursor.now k.args.key.now ≡ ok (view_in k.in-Some.p k.args.key.now)
cursor-read k = yes (says_cursor k.args.key.now) (k.cursor_in.ensures k.args.key.now) k.in-Some.is

pub returns-then-key-ne-MAX_KEY : goal.returns-then-key-ne-MAX_KEY
returns-then-key-ne-MAX_KEY c =
    rows-no-key c.args.block.now c.args.cursor.now c.args.key.now c.args.keys.now c.args.rows.now c.args.count.now c.if-key-ne-MAX_KEY.true

pub returns-in_default : goal.returns-in_default
returns-in_default c =
    rows-no-cursor c.args.block.now c.args.cursor.now c.args.key.now c.args.keys.now c.args.rows.now c.args.count.now c.if-key-ne-MAX_KEY.false
    (yes (says_cursor c.args.key.now) (c.cursor_in.ensures c.args.key.now) c.in_default.is)

pub put_gave-requires : goal.put_gave-requires
put_gave-requires c = cursor-counts _ _ _ (cursor-read (goal.at.put_gave-requires c).In-Some)

pub returns : goal.returns
returns c =
    rows-asked c.args.block.now c.args.cursor.now c.args.key.now c.args.keys.now c.args.rows.now c.args.count.now c.if-key-ne-MAX_KEY.false (cursor-read (goal.at.returns c).In-Some)
    (rows-put c.args.cursor.now c.args.key.now c.args.keys.now c.args.rows.now c.args.count.now _ _ c.give_rows-gave.ensures c.put_gave.ensures)
