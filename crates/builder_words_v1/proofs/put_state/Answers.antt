-- `put_state` stores a builder's numbers as four words; where there is another number of words it leaves them and says so.
-- The four stores go to the four places, so nothing of the old list is left (`all-stored`), and they have the order of the definition's list.
use mathlib.Core.List.{[], ◌∷◌}
use Rattle.row_words.proofs.Laws.{stores_none, stores_all}
use Rattle.row_words.proofs.Stores.{all-stored}
use Rattle.builder_words_v1.proofs.put_state.Goals as goal

pub returns-then-words-ne-BUILDER_WORDS : goal.returns-then-words-ne-BUILDER_WORDS
returns-then-words-ne-BUILDER_WORDS c = stores_none _ c.if-words-ne-BUILDER_WORDS.true

pub returns : goal.returns
returns c = stores_all c.args.words.now c.if-words-ne-BUILDER_WORDS.false (all-stored (_ ∷ _ ∷ _ ∷ _ ∷ []) c.args.words.now c.if-words-ne-BUILDER_WORDS.false)
