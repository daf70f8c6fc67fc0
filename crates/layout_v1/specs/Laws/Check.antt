-- What the contracts and the theorems say by the laws of `Check`: definitions.
use Rattle.std.specs.Prelude.{ℕ, ◌+◌, ◌-◌, ◌≤◌, ◌≡◌, List, [], length, take, drop}
use Rattle.layout.specs.Res.{Res}
use Rattle.layout.specs.Key.{Key, rank_is, no_rank}
use Rattle.layout.specs.Trailer.{Trailer, data_of}
use Rattle.layout_v1.specs.Check.{Passed, passed_is, check_from}
use Rattle.layout_v1.specs.Laws.Joined.{key_at}

-- what the check answers once trailer and offsets are good
abbrev pub rows_of : List ℕ → Trailer → Res ℕ
rows_of b t = check_from t.count b t (passed_is 0 [] no_rank)

abbrev pub first_at : ℕ
first_at = 4

-- a first key of `len` bytes: before row 0 there is none
pub record First (d : List ℕ) (rows len : ℕ) : Type 0 where
  pub none : rows ≡ 0 → len ≡ 0
  pub inside : len ≤ length d - first_at

abbrev pub first_is : List ℕ → ℕ → Key
first_is d len = take len (drop first_at d)

-- so many rows passed, the first key's length, and the row before: its share, its suffix and its number
abbrev pub here : List ℕ → ℕ → ℕ → ℕ → ℕ → ℕ → ℕ → Passed
here d rows len s at n seq = passed_is rows (first_is d len) (rank_is (key_at d first_at s at n) seq)

pub record Checking (b : List ℕ) (t : Trailer) (rows len s at n seq : ℕ) : Type 0 where
  pub left : ℕ
  pub counts : rows + left ≡ t.count
  pub first : First (data_of b t) rows len
  pub shares : s ≤ len
  pub suffix : at + n ≤ length (data_of b t)
  pub makes : check_from left b t (here (data_of b t) rows len s at n seq) ≡ rows_of b t
