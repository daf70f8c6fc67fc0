-- Six words are a cursor exactly when the definition says so, whatever key bytes stand beside them.
-- Each exit is one law of `cursor_in`: too few or too many words, no order, no mark, and a cursor.
use mathlib.Core.Path.{refl, sym}
use Rattle.row_words.specs.Words.{word_at}
use Rattle.block_words.proofs.Laws.{cursor-short, cursor-no-order, cursor-no-mark, cursor-loaded}
use Rattle.block_words.proofs.cursor_in.Goals as goal

pub returns-then-words-ne-CURSOR_WORDS : goal.returns-then-words-ne-CURSOR_WORDS
returns-then-words-ne-CURSOR_WORDS c = cursor-short _ c.if-words-ne-CURSOR_WORDS.true

pub returns-in_err-order : goal.returns-in_err-order
returns-in_err-order c = rw c.from_residual.ensures (cursor-no-order _ c.if-words-ne-CURSOR_WORDS.false (sym c.in_err-order.ensures))

pub returns-in_err-done : goal.returns-in_err-done
returns-in_err-done c =
    rw c.from_residual-in_err-done.ensures (cursor-no-mark _ c.if-words-ne-CURSOR_WORDS.false (sym c.in_ok-order.ensures) (sym c.in_err-done.ensures))

pub returns : goal.returns
returns c =
    let ws = c.args.words.now in
    cursor-loaded ws (record { order = c.in_ok-order.order; region = word_at ws 1; at = word_at ws 2; key_len = word_at ws 3; done = c.in_ok-done.done; number = word_at ws 5 }) c.if-words-ne-CURSOR_WORDS.false (sym c.in_ok-order.ensures) (sym c.in_ok-done.ensures) refl refl refl refl
