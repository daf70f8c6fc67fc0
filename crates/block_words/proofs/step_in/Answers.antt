-- `step_in` keeps its promise: its two tests are the definition's first, and then it answers what `cursor_in` does.
use Rattle.block_words.proofs.Starts.{step-no-row, step-no-key, step_so}
use Rattle.block_words.proofs.step_in.Goals as goal

pub returns-then-row-ne-ROW_WORDS : goal.returns-then-row-ne-ROW_WORDS
returns-then-row-ne-ROW_WORDS c =
    let s = c.args in
    step-no-row s.cursor.now s.key.now s.row.now c.if-row-ne-ROW_WORDS.true

pub returns-then-key-ne-MAX_KEY : goal.returns-then-key-ne-MAX_KEY
returns-then-key-ne-MAX_KEY c =
    let s = c.args in
    step-no-key s.cursor.now s.key.now s.row.now c.if-row-ne-ROW_WORDS.false c.if-key-ne-MAX_KEY.true

pub returns : goal.returns
returns c =
    let s = c.args in
    step_so s.cursor.now s.key.now s.row.now c.if-row-ne-ROW_WORDS.false c.if-key-ne-MAX_KEY.false (c.cursor_in.ensures s.key.now)
