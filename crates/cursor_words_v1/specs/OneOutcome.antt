-- Each promise admits one outcome: two results, with the words that they leave, that both keep it are equal.
use Rattle.std.specs.Prelude.{ℕ, Bool, ◌≡◌, List, Option}
use Rattle.std.proofs.Common.{sym, ◌∙◌}
use Rattle.row_decode_v2.specs.declared.Row.{Row}
use Rattle.block_iterator.specs.declared.BlockIterator.{BlockIterator}
use Rattle.row_words.specs.OneOutcome.{stores_settled}
use Rattle.cursor_words_v1.specs.Says.{says_cursor-one}
use Rattle.cursor_words_v1.specs.Promise.{LoadsCursor, PutsCursor, PutsRow}

pub cursor_in_settled : (ws : List ℕ) (r q : Option BlockIterator) → LoadsCursor ws r → LoadsCursor ws q → r ≡ q
cursor_in_settled ws r q m n = says_cursor-one r q (m ∙ sym n)

pub put-cursor-settled : (c : BlockIterator) (ws : List ℕ) (r q : Bool) (ys zs : List ℕ) → PutsCursor c ws r ys → PutsCursor c ws q zs → (r ≡ q) × (ys ≡ zs)
put-cursor-settled c ws r q ys zs m n = stores_settled m n

pub put-row-settled : (number : ℕ) (row : Row) (ws : List ℕ) (r q : Bool) (ys zs : List ℕ) → PutsRow number row ws r ys → PutsRow number row ws q zs → (r ≡ q) × (ys ≡ zs)
put-row-settled number row ws r q ys zs m n = stores_settled m n
