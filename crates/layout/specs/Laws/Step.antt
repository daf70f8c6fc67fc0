-- What the contracts and the theorems say by the laws of `Step`: definitions.
use Rattle.std.specs.Prelude.{ℕ, ◌<◌, ◌≤◌, ◌≡◌, false, List, [], length}
use Rattle.layout.specs.Res.{ok}
use Rattle.layout.specs.Limits.{max_key}
use Rattle.layout.specs.Key.{Key}
use Rattle.layout.specs.RowRead.{RowRead, key_length, key_of}
use Rattle.layout.specs.Trailer.{Trailer, trailer_of, data_of, Region, region_of, row_in}
use Rattle.layout.specs.Number.{number_at}
use Rattle.layout.specs.Cursor.{ascending, descending, Cursor, marked, found, done, Step, step_is, past_row, Keyed, row_ending_at, back_past}

-- the region that a row is read in
pub record UsedIn (b : List ℕ) (t : Trailer) (region : ℕ) (g : Region) : Type 0 where
  pub trailer-good : trailer_of b ≡ ok t
  pub inside : region < t.count
  pub used : region_of b t region ≡ ok g

pub data Stepped (c : Cursor) (b : List ℕ) : Step → Type 0 where
  stays : Stepped c b (step_is c done)
  ends : Stepped c b (step_is (marked c) done)
  goes-up : (t : Trailer) (g : Region) (r : RowRead) → UsedIn b t c.region g → c.order ≡ ascending → c.done ≡ false → row_in (data_of b t) g c.at c.key_len ≡ ok r
      → Stepped c b (step_is (past_row c g r (key_of (data_of b t) c.key r)) (found c.region c.number r (key_of (data_of b t) c.key r)))
  goes_back : (t : Trailer) (region : ℕ) (g : Region) (k : Keyed) → UsedIn b t region g → c.order ≡ descending → row_ending_at c.at (data_of b t) g c.at g.start [] ≡ ok k
      → Stepped c b (step_is (back_past c region (number_at b t region k.row.start) k.row) (found region (number_at b t region k.row.start) k.row k.key))

-- the key that is given
pub record KeyedWell (room : ℕ) (r : RowRead) (key : Key) : Type 0 where
  pub some : 1 ≤ key_length r
  pub fits : key_length r ≤ max_key
  pub held : key_length r ≤ room
  pub whole : length key ≡ key_length r
