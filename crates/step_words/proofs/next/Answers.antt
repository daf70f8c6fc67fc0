-- A step in place keeps its promise: the lengths first, then the plain step, and where it is none the step of
-- any row, from words and bytes that are as they came. Each exit is one law.
use mathlib.Core.Path.{sym}
use Rattle.block_words.proofs.Laws.{cursor-short}
use Rattle.block_words.proofs.Steps.{steps-no-row, steps-no-key, steps-no-cursor}
use Rattle.words_plain.proofs.Laws.{steps-made, steps-unmade, steps-after}
use Rattle.step_words.proofs.next.Goals as goal

pub returns-then-row-ne-ROW_WORDS : goal.returns-then-row-ne-ROW_WORDS
returns-then-row-ne-ROW_WORDS c = steps-no-row _ c.args.cursor.now c.args.key.now c.args.out.now c.args.row.now c.if-row-ne-ROW_WORDS.true

pub returns-then-key-ne-MAX_KEY : goal.returns-then-key-ne-MAX_KEY
returns-then-key-ne-MAX_KEY c = steps-no-key _ c.args.cursor.now c.args.key.now c.args.out.now c.args.row.now c.if-row-ne-ROW_WORDS.false c.if-key-ne-MAX_KEY.true

pub returns-then-cursor-ne-CURSOR_WORDS : goal.returns-then-cursor-ne-CURSOR_WORDS
returns-then-cursor-ne-CURSOR_WORDS c = steps-no-cursor _ c.args.cursor.now c.args.key.now c.args.out.now c.args.row.now c.if-row-ne-ROW_WORDS.false c.if-key-ne-MAX_KEY.false (sym (cursor-short _ c.if-cursor-ne-CURSOR_WORDS.true _))

pub returns-then-plain_next : goal.returns-then-plain_next
returns-then-plain_next c = steps-made c.args.block.now c.args.cursor.now c.args.key.now c.args.out.now c.args.row.now c.plain_next.ensures c.if-plain_next.true

pub returns : goal.returns
returns c = steps-after c.args.block.now (steps-unmade c.args.block.now c.args.cursor.now c.args.key.now c.args.out.now c.args.row.now c.plain_next.ensures c.if-plain_next.false) c.next_words.ensures
