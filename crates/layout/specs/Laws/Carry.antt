-- What the contracts and the theorems say by the laws of `Carry`: definitions.
use Rattle.std.specs.Prelude.{ℕ, ◌≤◌, ◌≡◌, List, length, take, drop}
use Rattle.layout.specs.Limits.{max_key}
use Rattle.layout.specs.RowRead.{RowRead}

pub record Carries (key : List ℕ) (len : ℕ) : Type 0 where
  pub few : len ≤ max_key
  pub whole : length key ≡ max_key

-- the suffix of a row, where it stands
abbrev pub suffix_of : List ℕ → RowRead → List ℕ
suffix_of d r = take r.suffix_len (drop r.suffix_at d)
