-- What each public function promises: equations to the definitions, that settle each case and number answered and each word lent.
use Rattle.std.specs.Prelude.{ℕ, Bool, ◌≡◌, List, Option}
use Rattle.row_decode_v2.specs.Says.{row_from}
use Rattle.row_decode_v2.specs.declared.Row.{Row}
use Rattle.block_iterator.specs.Says.{view_of}
use Rattle.block_iterator.specs.declared.BlockIterator.{BlockIterator}
use Rattle.row_words.specs.Promise.{Stores}
use Rattle.cursor_words_v1.specs.Words.{cursor_count, row_count, cursor_in, cursor_words, row_words_of}
use Rattle.cursor_words_v1.specs.Says.{says_cursor}

abbrev pub LoadsCursor : List ℕ → Option BlockIterator → Type 0
LoadsCursor ws r = says_cursor r ≡ cursor_in ws

abbrev pub PutsCursor : BlockIterator → List ℕ → Bool → List ℕ → Type 0
PutsCursor c ws r ws' = Stores cursor_count (cursor_words (view_of c)) ws r ws'

abbrev pub PutsRow : ℕ → Row → List ℕ → Bool → List ℕ → Type 0
PutsRow number row ws r ws' = Stores row_count (row_words_of number (row_from row)) ws r ws'
