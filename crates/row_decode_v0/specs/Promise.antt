-- What each public function promises: equations to the definitions of `layout_v1`, that settle each number answered.
use Rattle.std.specs.Prelude.{ℕ, ◌≡◌, List, Result}
use Rattle.layout_v1.specs.RowRead.{decode_row, read_row, read_key}
use Rattle.row_decode_v2.specs.Says.{says_row, says_key}
use Rattle.basics.specs.declared.Refusal.{Refusal}
use Rattle.row_decode_v2.specs.declared.Row.{Row}
use Rattle.row_decode_v2.specs.declared.KeyPlace.{KeyPlace}

-- a single row
abbrev pub Decodes : List ℕ → ℕ → Result Row Refusal → Type 0
Decodes s first_len r = says_row r ≡ decode_row s first_len

-- the row at a place of a block, that ends at `end` and may share `most` bytes
abbrev pub DecodesAt : List ℕ → ℕ → ℕ → ℕ → Result Row Refusal → Type 0
DecodesAt s at end most r = says_row r ≡ read_row s at end most

-- its key alone
abbrev pub DecodesKey : List ℕ → ℕ → ℕ → ℕ → Result KeyPlace Refusal → Type 0
DecodesKey s at end most r = says_key r ≡ read_key s at end most
