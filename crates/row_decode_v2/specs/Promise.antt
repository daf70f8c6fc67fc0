-- What each public function promises: equations to the definitions of `layout`, that settle each number answered.
use Rattle.std.specs.Prelude.{ℕ, ◌≡◌, Bool, List, Result}
use Rattle.layout.specs.RowRead.{Held, held_as, decode_row, read_row, read_key, may_share}
use Rattle.basics.specs.Says.{says_kind, says_held}
use Rattle.basics.specs.declared.Kind.{Kind}
use Rattle.basics.specs.declared.Refusal.{Refusal}
use Rattle.basics.specs.declared.ValueDeletable.{ValueDeletable}
use Rattle.row_decode_v2.specs.declared.Row.{Row}
use Rattle.row_decode_v2.specs.declared.KeyPlace.{KeyPlace}
use Rattle.row_decode_v2.specs.Says.{says_row, says_key}

-- a single row
abbrev pub Decodes : List ℕ → ℕ → Result Row Refusal → Type 0
Decodes s prev_len r = says_row r ≡ decode_row s prev_len

-- the row at a place, in a region that ends at `end`
abbrev pub DecodesAt : List ℕ → ℕ → ℕ → ℕ → Bool → Result Row Refusal → Type 0
DecodesAt s at end prev_len restart r = says_row r ≡ read_row s at end prev_len restart

-- its key alone
abbrev pub DecodesKey : List ℕ → ℕ → ℕ → ℕ → Bool → Result KeyPlace Refusal → Type 0
DecodesKey s at end prev_len restart r = says_key r ≡ read_key s at end prev_len restart

-- how many bytes of the key before it a row may share
abbrev pub MayShare : Bool → ℕ → ℕ → Type 0
MayShare restart prev_len r = r ≡ may_share restart prev_len

-- what a row of this kind holds, of value bytes that stand at a place
abbrev pub held_from : Kind → ℕ → ℕ → Held
held_from k at n = held_as (says_kind k) at n

abbrev pub HeldAs : Kind → ℕ → ℕ → ValueDeletable → Type 0
HeldAs k at n r = says_held r ≡ held_from k at n
