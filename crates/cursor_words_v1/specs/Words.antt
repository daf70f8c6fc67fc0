-- The words that stand for a cursor of the earlier format, and for a row that a step gives.
use Rattle.std.specs.Prelude.{ℕ, List, [], ◌∷◌, ◌++◌}
use Rattle.layout.specs.Res.{Res, ok, bind}
use Rattle.layout.specs.RowRead.{RowRead}
use Rattle.layout_v1.specs.Cursor.{Cursor, cursor_is}
use Rattle.row_words.specs.Words.{counted, word_at, order_in, order_word, single_words}

abbrev pub cursor_count : ℕ
cursor_count = 2

abbrev pub row_count : ℕ
row_count = 14

-- ---- a cursor: its order, and how many rows it has passed

unfoldable pub cursor_in : List ℕ → Res Cursor
cursor_in ws =
    counted ws cursor_count
    (bind (order_in (word_at ws 0)) λ d.
    ok (cursor_is d (word_at ws 1)))

abbrev pub cursor_words : Cursor → List ℕ
cursor_words c = order_word c.order ∷ c.passed ∷ []

-- ---- a row: a single row's words, then its number in the block

abbrev pub row_words_of : ℕ → RowRead → List ℕ
row_words_of number r = single_words r ++ (number ∷ [])
