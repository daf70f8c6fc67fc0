-- `put_state` stores a builder's numbers as six words; where there is another number of words it leaves them and says so.
-- The six stores go to the six places, so nothing of the old list is left (`six`), and they have the order of the definition's list.
use mathlib.Core.List.{[], ◌∷◌}
use native.Mathlib.Omega.{arith}
use lib.ListN.{length-set}
use Rattle.row_words.proofs.Laws.{stores_none, stores_all}
use Rattle.row_words.proofs.Stores.{all-stored}
use Rattle.builder_words.proofs.put_state.Goals as goal

pub returns-then-words-ne-BUILDER_WORDS : goal.returns-then-words-ne-BUILDER_WORDS
returns-then-words-ne-BUILDER_WORDS c = stores_none _ c.if-words-ne-BUILDER_WORDS.true

pub bounds-words-4 : goal.bounds-words-4
bounds-words-4 c = simp length-set (omega (arith, c.if-words-ne-BUILDER_WORDS.false))

pub bounds-words-5 : goal.bounds-words-5
bounds-words-5 c = simp length-set (omega (arith, c.if-words-ne-BUILDER_WORDS.false))

pub returns : goal.returns
returns c = stores_all c.args.words.now c.if-words-ne-BUILDER_WORDS.false (all-stored (_ ∷ _ ∷ _ ∷ _ ∷ _ ∷ _ ∷ []) c.args.words.now c.if-words-ne-BUILDER_WORDS.false)
