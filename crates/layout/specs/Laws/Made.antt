-- What the contracts and the theorems say by the laws of `Made`: definitions.
use Rattle.std.specs.Prelude.{ℕ, ◌+◌, ◌*◌, ◌≤◌, ◌≡◌, false, ◌&&◌, List, [], ◌++◌, ltb, leb, length, take}
use Rattle.layout.specs.Limits.{max_key, max_value, max_block, max_interval, max_offset}
use Rattle.layout.specs.Place.{splice}
use Rattle.layout.specs.Key.{Key}
use Rattle.layout.specs.Row.{Fields, Row, value_of}
use Rattle.layout.specs.Block.{block_rows, offsets, trailer}
use Rattle.layout.specs.Builder.{Builder, at_restart, present_size, grown_size, grown}
use Rattle.layout.specs.Laws.Block.{AllOk, AllFit, last_key_of}

pub record Made (n : ℕ) (rs : List Row) (b : Builder) (bytes places : List ℕ) : Type 0 where
  pub interval_is : b.restart_interval ≡ n
  pub block : b.block_size ≤ max_block
  pub some : 1 ≤ n
  pub few : n ≤ max_interval
  pub used-is : b.used ≡ length (block_rows n rs)
  pub restarts-are : b.restarts ≡ length (offsets n rs)
  pub rows_are : b.counter ≡ length rs
  pub last_len_is : b.last_key_len ≡ length (last_key_of [] rs)
  pub last-is : b.last_key_of ≡ last_key_of [] rs
  pub in_data : b.used ≤ length bytes
  pub in_places : b.restarts ≤ length places
  pub bytes-are : take b.used bytes ≡ block_rows n rs
  pub places-are : take b.restarts places ≡ offsets n rs
  pub room : 1 ≤ length rs → present_size b ≤ length bytes
  pub rows_ok : AllOk rs
  pub offsets-fit : AllFit (offsets n rs)

-- what an accepted row passed
pub record Accepted (b : Builder) (data_len places_len : ℕ) (key : Key) (f : Fields) (b' : Builder) : Type 0 where
  pub is : grown b key f ≡ b'
  pub key-some : 1 ≤ length key
  pub key_fits : length key ≤ max_key
  pub value-fits : length (value_of f) ≤ max_value
  pub near : (at_restart b && ltb max_offset b.used) ≡ false
  pub room : grown_size b key f ≤ data_len
  pub place : (at_restart b && leb places_len b.restarts) ≡ false

-- rows that stand in a buffer, and offsets in another: a trailer written after the rows makes the block, and leaves the rows
pub record BlockStands (bytes places rows os : List ℕ) (used count : ℕ) : Type 0 where
  pub size : length (rows ++ trailer os) ≡ used + 2 * count + 2
  pub block : take (length (rows ++ trailer os)) (splice bytes used (trailer (take count places))) ≡ rows ++ trailer os
  pub long : length (splice bytes used (trailer (take count places))) ≡ length bytes
  pub begins : take used (splice bytes used (trailer (take count places))) ≡ take used bytes
