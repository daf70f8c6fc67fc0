-- What the contracts and the theorems say by the laws of `Trailer`: definitions.
use Rattle.std.specs.Prelude.{ℕ, ◌+◌, ◌<◌, ◌≤◌, ◌≡◌, List, length, get_or}
use Rattle.layout.specs.Res.{ok}
use Rattle.layout.specs.Trailer.{Trailer, trailer_is, trailer_of, data_of, offset_at, rising_from, Region}

-- what a region that is used tells
pub record RegionTells (b : List ℕ) (t : Trailer) (r : ℕ) (g : Region) : Type 0 where
  pub from : g.start ≡ offset_at b t r
  pub rises : g.start < g.end
  pub inside : g.end ≤ t.size
  pub reaches : g.reach ≤ g.end
  pub near : g.end ≤ g.reach + 1
  pub last : t.count ≤ r + 1 → (g.end ≡ t.size) × (g.reach ≡ g.end)
  pub inner : r + 1 < t.count → (g.end ≡ offset_at b t (r + 1)) × (g.reach < g.end)

-- a loop over the offsets: r of them are tested, and the next must be at least `low`
pub record RisesFrom (b : List ℕ) (t : Trailer) (r low : ℕ) : Type 0 where
  pub left : ℕ
  pub count : r + left ≡ t.count
  pub makes : rising_from left b t r low ≡ rising_from t.count b t 0 0

-- what good offsets tell: the first is 0, each is above the one before and below the data length
pub record OffsetsTell (b : List ℕ) (t : Trailer) : Type 0 where
  pub first : offset_at b t 0 ≡ 0
  pub below-size : (i : ℕ) → i < t.count → offset_at b t i < t.size
  pub rises : (i : ℕ) → i + 1 < t.count → offset_at b t i < offset_at b t (i + 1)

-- rows d, then a trailer of these offsets: the trailer is read, and each offset
pub record TrailerLaid (d os b : List ℕ) : Type 0 where
  pub read : trailer_of b ≡ ok (trailer_is (length os) (length d))
  pub rows : data_of b (trailer_is (length os) (length d)) ≡ d
  pub offs : (i : ℕ) → i < length os → offset_at b (trailer_is (length os) (length d)) i ≡ get_or os i 0
