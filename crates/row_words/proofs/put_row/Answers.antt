-- `put_row` stores a row as fifteen words; where there is another number of words it leaves them and says so.
-- The first thirteen are those of `put_single`, which is lent as many; the row's two numbers are stored behind them (`numbers-stored`).
use mathlib.Core.Path.{◌≡◌, sym}
use native.Mathlib.Omega.{arith}
use lib.ListN.{length, take, length-set}
use lib.Seq.{length-take-le}
use Rattle.row_decode_v2.specs.Says.{row_from}
use Rattle.row_words.specs.Words.{single_count}
use Rattle.row_words.proofs.Laws.{stores_none, stores_all, stored}
use Rattle.row_words.proofs.Fields.{numbers-stored}
use Rattle.row_words.proofs.put_row.Goals.{Else-words-ne-ROW_WORDS}
use Rattle.row_words.proofs.put_row.Goals as goal

-- the words that are lent
thirteen : (k : Else-words-ne-ROW_WORDS) → length (take single_count k.args.words.now) ≡ single_count
thirteen k = length-take-le single_count k.args.words.now (omega (arith, k.if-words-ne-ROW_WORDS.false))

pub returns-then-words-ne-ROW_WORDS : goal.returns-then-words-ne-ROW_WORDS
returns-then-words-ne-ROW_WORDS c = stores_none _ c.if-words-ne-ROW_WORDS.true

pub slice_bounds-put_single-end-2 : goal.slice_bounds-put_single-end-2
slice_bounds-put_single-end-2 c = sym (thirteen (goal.at.slice_bounds-put_single-end-2 c).Else-words-ne-ROW_WORDS)

pub bounds-words-14 : goal.bounds-words-14
bounds-words-14 c = simp length-set (omega (arith, c.if-words-ne-ROW_WORDS.false))

pub returns : goal.returns
returns c =
    let a = c.args in
    stores_all a.words.now c.if-words-ne-ROW_WORDS.false (numbers-stored a.words.now a.region a.number (row_from a.row) c.if-words-ne-ROW_WORDS.false (stored (thirteen (goal.at.returns c).Else-words-ne-ROW_WORDS) c.put_single.ensures))
