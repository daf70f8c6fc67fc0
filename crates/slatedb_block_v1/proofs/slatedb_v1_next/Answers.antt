-- A step keeps its promise: the words that mean nothing first, then what `next` promised of the cursor in the words; the cursor's words are stored where it moved, the row's
-- where one was found. Each exit is one law of `Steps`.
use Rattle.std.specs.Prelude.{Ok}
use mathlib.Core.Path.{◌≡◌, ap, ◌∙◌}
use Rattle.layout.specs.Res.{ok}
use Rattle.basics.specs.Answers.{yes}
use Rattle.block_iterator.specs.Says.{view_of}
use Rattle.row_words.proofs.Laws.{stored}
use Rattle.cursor_words_v1.specs.Words.{cursor_in}
use Rattle.cursor_words_v1.specs.Says.{says_cursor}
use Rattle.cursor_words_v1.proofs.Laws.{cursor-counts}
use Rattle.slatedb_block_v1.proofs.Steps.{steps-no-row, steps-no-cursor, steps-found, steps-done, steps-refused}
use Rattle.slatedb_block_v1.proofs.slatedb_v1_next.Goals.{In-Some}
use Rattle.slatedb_block_v1.proofs.slatedb_v1_next.Goals as goal

cursor-read : (k : In-Some) → cursor_in k.args.cursor.now ≡ ok (view_of k.in-Some.c)
cursor-read k = yes says_cursor k.cursor_in.ensures k.in-Some.is

pub returns-then-row-ne-ROW_WORDS : goal.returns-then-row-ne-ROW_WORDS
returns-then-row-ne-ROW_WORDS c =
    let s = c.args in
    steps-no-row _ s.cursor.now s.out.now s.row.now c.if-row-ne-ROW_WORDS.true

pub returns-in_default : goal.returns-in_default
returns-in_default c =
    let s = c.args in
    steps-no-cursor _ s.cursor.now s.out.now s.row.now c.if-row-ne-ROW_WORDS.false (yes says_cursor c.cursor_in.ensures c.in_default.is)

pub returns-in-Some-stepped : goal.returns-in-Some-stepped
returns-in-Some-stepped c =
    let s = c.args in
    let h = c.if-row-ne-ROW_WORDS.false in
    steps-found _ s.cursor.now s.out.now s.row.now c.in-Some.c h (cursor-read (goal.at.returns-in-Some-stepped c).In-Some) _ _ c.next-next.ensures (c.in-Ok.is ∙ ap Ok c.in-Some-stepped.is) (stored (cursor-counts _ _ (cursor-read (goal.at.returns-in-Some-stepped c).In-Some)) c.put_cursor.ensures) (stored h c.put_row.ensures)

pub returns-in_default-stepped : goal.returns-in_default-stepped
returns-in_default-stepped c =
    let s = c.args in
    steps-done _ s.cursor.now s.out.now s.row.now c.in-Some.c c.if-row-ne-ROW_WORDS.false (cursor-read (goal.at.returns-in_default-stepped c).In-Some) _ _ c.next-next.ensures (c.in-Ok.is ∙ ap Ok c.in_default-stepped.is) (stored (cursor-counts _ _ (cursor-read (goal.at.returns-in_default-stepped c).In-Some)) c.put_cursor.ensures)

pub returns-in-Err : goal.returns-in-Err
returns-in-Err c =
    let s = c.args in
    steps-refused _ s.cursor.now s.out.now s.row.now c.in-Some.c c.if-row-ne-ROW_WORDS.false (cursor-read (goal.at.returns-in-Err c).In-Some) _ _ c.next-next.ensures c.in-Err.is c.from.ensures
