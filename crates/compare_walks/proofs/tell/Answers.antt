-- `tell` stores and answers what the walk says: how many rows, their sum, and whether "done" ended it; a refused walk has its number answered and nothing stored.
-- In each arm the walk's case is known. There are two words, as required: with both set, nothing of the old ones is left (`told-ended`).
use Rattle.std.proofs.Common.{Bool, cond, sym, ap}
use Rattle.row_words.specs.Words.{done_code}
use Rattle.compare_walks.specs.Says.{says_walked}
use Rattle.compare_walks.proofs.Laws.{told-ended, told-refused}
use Rattle.compare_walks.proofs.tell.Goals as goal

pub returns-then-w : goal.returns-then-w
returns-then-w c =
    told-ended c.args.sums.now _ _ _ c.requires (ap says_walked c.in-Ok.is) (sym (ap (λ (o : Bool). cond o done_code 0) c.if-w.true))

pub returns-else-w : goal.returns-else-w
returns-else-w c =
    told-ended c.args.sums.now _ _ _ c.requires (ap says_walked c.in-Ok.is) (sym (ap (λ (o : Bool). cond o done_code 0) c.if-w.false))

pub returns-in-Err : goal.returns-in-Err
returns-in-Err c = told-refused c.args.sums.now (ap says_walked c.in-Err.is) c.from.ensures
