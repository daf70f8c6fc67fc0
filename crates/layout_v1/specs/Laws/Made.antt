-- What the contracts and the theorems say by the laws of `Made`: definitions.
use Rattle.std.specs.Prelude.{ℕ, ◌≤◌, ◌≡◌, List, length, take}
use Rattle.layout.specs.Limits.{max_block}
use Rattle.layout.specs.Row.{Row}
use Rattle.layout.specs.Laws.Block.{AllOk, AllFit}
use Rattle.layout_v1.specs.Block.{block_rows, offsets}
use Rattle.layout_v1.specs.Builder.{Builder, present_size}
use Rattle.layout_v1.specs.Laws.Block.{first_or}

-- the buffers begin with these rows and their offsets, and there is room for the trailer
pub record Buffers (rs : List Row) (b : Builder) (bytes places : List ℕ) : Type 0 where
  pub in_data : b.used ≤ length bytes
  pub in_places : b.rows ≤ length places
  pub bytes-are : take b.used bytes ≡ block_rows rs
  pub places-are : take b.rows places ≡ offsets rs
  pub room : 1 ≤ length rs → present_size b ≤ length bytes

pub record Made (rs : List Row) (b : Builder) (bytes places : List ℕ) : Type 0 where
  pub block : b.block_size ≤ max_block
  pub used-is : b.used ≡ length (block_rows rs)
  pub rows_are : b.rows ≡ length rs
  pub first_len_is : b.first_key_len ≡ length (first_or rs)
  pub first-is : b.the_first_key ≡ first_or rs
  pub rows_ok : AllOk rs
  pub offsets-fit : AllFit (offsets rs)
  pub lent : Buffers rs b bytes places
