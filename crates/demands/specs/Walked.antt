-- What is said of a seek's cost, and of the rows walked after a seek: where its walk starts and stops, which rows it gives, by their places in the data.
use Rattle.std.specs.Prelude.{ℕ, suc, ◌+◌, ◌-◌, ◌<◌, ◌≤◌, ◌≡◌, cond, List, [], ◌∷◌, ◌⊎◌, length, get_or}
use Rattle.layout.specs.Res.{ok}
use Rattle.layout.specs.Varint.{significant_bits}
use Rattle.layout.specs.Key.{Key, same}
use Rattle.layout.specs.Trailer.{Trailer, trailer_of, offset_at}
use Rattle.layout.specs.Check.{check}
use Rattle.layout.specs.Cursor.{Direction, Cursor, Keyed}
use Rattle.layout.specs.Seek.{restart_key, done_up, Sought, sought_is, seek}
use Rattle.demands.specs.Reads.{AllOf, keys_of}
use Rattle.demands.specs.Runs.{WalksAll}

-- ---- the search

-- a block of n restarts that the check accepts, on which the seeks with the empty target read as many restart keys as n has significant bits
pub record ReachedOn (n : ℕ) : Type 0 where
  pub b : List ℕ
  pub bytes : (i : ℕ) → get_or b i 0 < 256
  pub accepted : check b ≡ ok n
  pub t : Trailer
  pub trailer-is : trailer_of b ≡ ok t
  pub restarts : t.count ≡ n
  pub reaches : (d : Direction) → (s : Sought) × (seek d b [] ≡ ok s) × (s.reads ≡ significant_bits n)

-- ---- after a search that closed at the restart `place`

-- where an ascending walk stops: in the region before that restart's, at the first row of its own, or, where the search closed past the last restart, nowhere: "done"
pub data StopsUp (b : List ℕ) (t : Trailer) (place : ℕ) (c : Cursor) : Type 0 where
  in_before : c.region + 1 ≡ place → StopsUp b t place c
  at-start : c.region ≡ place → c.at ≡ offset_at b t place → StopsUp b t place c
  nowhere : place ≡ t.count → c ≡ done_up b t → StopsUp b t place c

-- which region a descending walk reads: the one before that restart's (not below 0), or that of the last of a run of restarts, from this one on, which all have the target as their key
pub data StartsDown (b : List ℕ) (t : Trailer) (target : Key) (place region : ℕ) : Type 0 where
  earlier : region ≡ place - 1 → StartsDown b t target place region
  in_run : place ≤ region → ((i : ℕ) → place ≤ i → i ≤ region → restart_key b t i ≡ ok target) → StartsDown b t target place region

-- ---- the rows walked after a seek

-- these rows, and then "done", are what steps from the seek's cursor give
pub record WalkedAfter (d : Direction) (b : List ℕ) (target : Key) (room : ℕ) (given : List Keyed) : Type 0 where
  pub c : Cursor
  pub reads : ℕ
  pub is : seek d b target ≡ ok (sought_is c reads)
  pub walked : WalksAll b room c given

-- one of these rows starts at this place of the data
abbrev pub StartsAt : ℕ → List Keyed → Type 0
StartsAt at [] = ⊥
StartsAt at (k ∷ ks) = (k.row.start ≡ at) ⊎ StartsAt at ks

-- no two of them start at one place
abbrev pub NoneTwice : List Keyed → Type 0
NoneTwice [] = Unit {0}
NoneTwice (k ∷ ks) = (StartsAt k.row.start ks → ⊥) × NoneTwice ks

-- how many keys equal the target
unfoldable pub equal_to : Key → List Key → ℕ
equal_to target [] = 0
equal_to target (k ∷ ks) = cond (same k target) (suc (equal_to target ks)) (equal_to target ks)

-- a block's rows, and those that were walked after an ascending and after a descending seek with one target
pub record NoGap (target : Key) (rows up down : List Keyed) : Type 0 where
  -- no two rows of the block start at one place; neither walk gives one twice, or one that is not the block's
  pub once : NoneTwice rows
  pub once-up : NoneTwice up
  pub once-down : NoneTwice down
  pub only-up : AllOf (λ (k : Keyed). StartsAt k.row.start rows) up
  pub only-down : AllOf (λ (k : Keyed). StartsAt k.row.start rows) down
  -- each row is walked after the one seek or after the other
  pub together : AllOf (λ (k : Keyed). StartsAt k.row.start up ⊎ StartsAt k.row.start down) rows
  -- and after both exactly if its key equals the target
  pub both_equal : AllOf (λ (k : Keyed). StartsAt k.row.start up → StartsAt k.row.start down → k.key ≡ target) rows
  pub equal-both : AllOf (λ (k : Keyed). k.key ≡ target → StartsAt k.row.start up × StartsAt k.row.start down) rows
  -- so the walks' lengths add up to the number of rows and that of the rows whose key equals the target
  pub sum : length up + length down ≡ length rows + equal_to target (keys_of rows)
