-- `put_single` stores a row by itself as thirteen words; where there is another number of words it leaves them and says so.
-- With every place set, nothing of the old list is left, and the new one is the row's (`row-stored`): its value and its two times are in it as `held_words` and `time_words` gave them.
use Rattle.row_words.proofs.Laws.{stores_none, stores_all}
use Rattle.row_words.proofs.Fields.{row-stored}
use Rattle.row_words.proofs.put_single.Goals as goal

pub returns-then-words-ne-SINGLE_WORDS : goal.returns-then-words-ne-SINGLE_WORDS
returns-then-words-ne-SINGLE_WORDS c = stores_none _ c.if-words-ne-SINGLE_WORDS.true

pub returns : goal.returns
returns c =
    stores_all c.args.words.now c.if-words-ne-SINGLE_WORDS.false (rw (c.held_words-h.ensures, c.time_words-e.ensures, c.time_words-c.ensures) (row-stored c.args.words.now c.args.row c.if-words-ne-SINGLE_WORDS.false))
