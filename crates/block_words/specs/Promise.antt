-- What each public function promises: equations to the definitions, that settle each case and number answered and each word and byte lent.
use Rattle.std.specs.Prelude.{ℕ, Bool, ◌≡◌, List, [], Option}
use Rattle.layout.specs.Limits.{max_key}
use Rattle.place_v2.specs.Says.{view_in}
use Rattle.place_v2.specs.declared.Place.{Place}
use Rattle.row_words.specs.Words.{counted, cursor_in, cursor_words, cursor_count, row_count}
use Rattle.block_words.specs.Says.{says_cursor}
use Rattle.row_words.specs.Promise.{Stores}

-- ---- a cursor

-- whatever bytes stand beside the words
abbrev pub LoadsCursor : List ℕ → Option Place → Type 0
LoadsCursor ws r = (key : List ℕ) → says_cursor key r ≡ cursor_in ws key

abbrev pub PutsCursor : Place → List ℕ → Bool → List ℕ → Type 0
PutsCursor p ws r ws' = Stores cursor_count (cursor_words (view_in p [])) ws r ws'

-- ---- what a call starts from

abbrev pub LoadsStep : List ℕ → List ℕ → List ℕ → Option Place → Type 0
LoadsStep ws key row r = says_cursor key r ≡ counted row row_count (counted key max_key (cursor_in ws key))
