-- `put_cursor` stores a cursor as six words; where there is another number of words it leaves them and says so.
-- With every place set, nothing of the old list is left (`all-stored`): the list is the definition's, with the words that stand for the order and for the mark.
use mathlib.Core.List.{[], ◌∷◌}
use Rattle.row_words.proofs.Stores.{all-stored}
use Rattle.row_words.proofs.Laws.{stores_none, stores_all}
use Rattle.block_words.proofs.put_cursor.Goals as goal

pub returns-then-words-ne-CURSOR_WORDS : goal.returns-then-words-ne-CURSOR_WORDS
returns-then-words-ne-CURSOR_WORDS c = stores_none _ c.if-words-ne-CURSOR_WORDS.true

pub returns : goal.returns
returns c =
    stores_all c.args.words.now c.if-words-ne-CURSOR_WORDS.false (rw (c.order_word.ensures, c.truth_word.ensures) (all-stored (_ ∷ _ ∷ _ ∷ _ ∷ _ ∷ _ ∷ []) c.args.words.now c.if-words-ne-CURSOR_WORDS.false))
