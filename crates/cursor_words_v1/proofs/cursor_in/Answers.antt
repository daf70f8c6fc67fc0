-- Two words are a cursor exactly when the definition says so.
-- Each exit is one law of `cursor_in`: too few or too many words, no order, and a cursor.
use mathlib.Core.Path.{refl, sym}
use Rattle.row_words.specs.Words.{word_at}
use Rattle.cursor_words_v1.proofs.Laws.{cursor-short, cursor-no-order, cursor-loaded}
use Rattle.cursor_words_v1.proofs.cursor_in.Goals as goal

pub returns-then-words-ne-CURSOR_WORDS : goal.returns-then-words-ne-CURSOR_WORDS
returns-then-words-ne-CURSOR_WORDS c = cursor-short _ c.if-words-ne-CURSOR_WORDS.true

pub returns-in_err-order : goal.returns-in_err-order
returns-in_err-order c = rw c.from_residual.ensures (cursor-no-order _ c.if-words-ne-CURSOR_WORDS.false (sym c.in_err-order.ensures))

pub returns : goal.returns
returns c =
    cursor-loaded _ (record { order = c.in_ok-order.order; passed = word_at c.args.words.now 1 }) c.if-words-ne-CURSOR_WORDS.false (sym c.in_ok-order.ensures) refl
