-- What the contracts and the theorems say by the laws of `Block`: definitions.
use Rattle.std.specs.Prelude.{ℕ, ◌+◌, ◌≤◌, ◌≡◌, Bool, length, take, drop}
use mathlib.Core.List.{List, [], ◌∷◌, ◌++◌}
use Rattle.layout.specs.Limits.{max_key, max_offset}
use Rattle.layout.specs.Key.{Key}
use Rattle.layout.specs.Row.{Row}
use Rattle.layout.specs.RowRead.{may_share}
use Rattle.layout.specs.Block.{share_of}
use Rattle.layout.specs.Laws.Row.{FieldsOk}

-- a row that may be laid
pub record RowOk (r : Row) : Type 0 where
  pub key-some : 1 ≤ length r.key
  pub key_fits : length r.key ≤ max_key
  pub fields-ok : FieldsOk r.fields

abbrev pub AllOk : List Row → Type 0
AllOk [] = Unit {0}
AllOk (r ∷ rs) = RowOk r × AllOk rs

-- offsets that are allowed
abbrev pub AllFit : List ℕ → Type 0
AllFit [] = Unit {0}
AllFit (o ∷ os) = (o ≤ max_offset) × AllFit os

pub record Shares (restart : Bool) (before key : Key) : Type 0 where
  pub may : share_of restart before key ≤ may_share restart (length before)
  pub own : share_of restart before key ≤ length key
  pub whole : share_of restart before key + length (drop (share_of restart before key) key) ≡ length key
  pub makes : take (share_of restart before key) before ++ drop (share_of restart before key) key ≡ key

-- the key of the last row, or `before` where there is none
unfoldable pub last_key_of : Key → List Row → Key
last_key_of before [] = before
last_key_of before (r ∷ rs) = last_key_of r.key rs
