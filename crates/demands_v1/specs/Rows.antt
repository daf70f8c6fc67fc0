-- What the demands' statements say, in the earlier format: of the rows of an accepted block, of both walks, and of where a seek lands.
use Rattle.std.specs.Prelude.{ℕ, ◌<◌, ◌≤◌, ◌≡◌, true, false, List, [], ◌⊎◌, length, take, drop, get_or}
use Rattle.layout.specs.Res.{ok}
use Rattle.layout.specs.Key.{Key, no_rank, Rising, first_at_or_above, first_above}
use Rattle.layout.specs.Trailer.{Trailer, trailer_of}
use Rattle.layout.specs.Cursor.{Direction, ascending, descending, Keyed}
use Rattle.layout_v1.specs.Cursor.{Cursor, cursor_is, the_first_key, found, step_is, next, open_block, is_empty}
use Rattle.layout_v1.specs.Seek.{sought_is, seek}
use Rattle.demands.specs.Reads.{ranks_of, keys_of}
use Rattle.demands.specs.Runs.{backwards}
use Rattle.demands_v1.specs.Reads.{Names, Reads}
use Rattle.demands_v1.specs.Runs.{WalksAll}

-- ---- the rows of an accepted block

-- named by their places, with their keys; n is how many they are
pub record Rows (b : List ℕ) (n : ℕ) (t : Trailer) (rows : List Keyed) : Type 0 where
  pub reads : Reads b t rows
  pub in_order : Rising no_rank (ranks_of rows)
  pub many : n ≡ length rows

-- opened and stepped through, both ways: an opened cursor has passed no row
abbrev pub opened : Direction → Cursor
opened d = cursor_is d 0

pub record BothWays (b : List ℕ) (room : ℕ) (rows : List Keyed) : Type 0 where
  pub opens : (d : Direction) → open_block b d ≡ ok (opened d)
  pub forwards : WalksAll b room (opened ascending) rows
  pub back : WalksAll b room (opened descending) (backwards rows)

-- ---- seeks

-- ascending: the rows walked after the seek are those from the first at or above the target on; all are passed, which is "done", exactly when there is none
pub record SoughtUp (b : List ℕ) (target : Key) (rows : List Keyed) (room : ℕ) : Type 0 where
  pub c : Cursor
  pub reads : ℕ
  pub is : seek ascending b target ≡ ok (sought_is c reads)
  pub walked : WalksAll b room c (drop (first_at_or_above target (keys_of rows)) rows)
  pub over :
      ((first_at_or_above target (keys_of rows) < length rows) × (is_empty c b ≡ ok false))
      ⊎ ((first_at_or_above target (keys_of rows) ≡ length rows) × (is_empty c b ≡ ok true))

-- descending: the rows walked after the seek are those before the first above the target, the last of them first; all are passed exactly when there is none
pub record SoughtDown (b : List ℕ) (target : Key) (rows : List Keyed) (room : ℕ) : Type 0 where
  pub c : Cursor
  pub reads : ℕ
  pub is : seek descending b target ≡ ok (sought_is c reads)
  pub walked : WalksAll b room c (backwards (take (first_above target (keys_of rows)) rows))
  pub over :
      ((0 < first_above target (keys_of rows)) × (is_empty c b ≡ ok false))
      ⊎ ((first_above target (keys_of rows) ≡ 0) × (is_empty c b ≡ ok true))

-- row number i, by its key, against both: no row falls between the two, and it is on both sides exactly if its key is the target
pub record BetweenNumbers (target : Key) (rows : List Keyed) (i : ℕ) : Type 0 where
  pub either : (first_at_or_above target (keys_of rows) ≤ i) ⊎ (i < first_above target (keys_of rows))
  pub both : first_at_or_above target (keys_of rows) ≤ i → i < first_above target (keys_of rows) → get_or (keys_of rows) i [] ≡ target
  pub equal : get_or (keys_of rows) i [] ≡ target → (first_at_or_above target (keys_of rows) ≤ i) × (i < first_above target (keys_of rows))

-- a step gives this row, with its number
pub record Given (b : List ℕ) (room : ℕ) (c : Cursor) (k : Keyed) : Type 0 where
  pub moved : Cursor
  pub t : Trailer
  pub first : Key
  pub number : ℕ
  pub trailer-good : trailer_of b ≡ ok t
  pub first_read : the_first_key b t ≡ ok first
  pub named : Names b t first number k
  pub gives_it : next c b room ≡ ok (step_is moved (found number k.row k.key))
