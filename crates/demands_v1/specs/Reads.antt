-- A block's rows in the earlier format, each by its number, from 0. The order of rows is not asked: it stands beside, as `Rising`.
use Rattle.std.specs.Prelude.{ℕ, suc, ◌<◌, ◌≡◌, List, [], ◌∷◌, length}
use Rattle.layout.specs.Res.{ok}
use Rattle.layout.specs.Key.{Key, no_rank, Rising}
use Rattle.layout.specs.RowRead.{key_of}
use Rattle.layout.specs.Trailer.{Trailer, trailer_of, data_of, all_offsets}
use Rattle.layout.specs.Cursor.{Keyed}
use Rattle.layout_v1.specs.Check.{before, row_numbered}
use Rattle.demands.specs.Reads.{ranks_of}

-- this is row number i of the block, after its first key: it is read from its offset to the next, and this is its full key
pub record Names (b : List ℕ) (t : Trailer) (first : Key) (i : ℕ) (k : Keyed) : Type 0 where
  pub inside : i < t.count
  pub is : row_numbered b t first i ≡ ok k.row
  pub key-is : key_of (data_of b t) (before first i) k.row ≡ k.key

-- these are the rows from number i on
abbrev pub RowsFrom : List ℕ → Trailer → Key → ℕ → List Keyed → Type 0
RowsFrom b t first i [] = Unit {0}
RowsFrom b t first i (k ∷ ks) = Names b t first i k × RowsFrom b t first (suc i) ks

-- the key of the first of some rows
abbrev pub first_key_of : List Keyed → Key
first_key_of [] = []
first_key_of (k ∷ ks) = k.key

-- trailer and offsets are good, and these are all the rows: as many as the trailer says, row 0's key the first
pub record Reads (b : List ℕ) (t : Trailer) (rows : List Keyed) : Type 0 where
  pub trailer-good : trailer_of b ≡ ok t
  pub offsets-good : all_offsets b t ≡ ok tt
  pub rows-read : RowsFrom b t (first_key_of rows) 0 rows
  pub count-is : length rows ≡ t.count

-- accepted: the rows are read, in order, and the answer is how many there are
pub record Accepts (b : List ℕ) (n : ℕ) : Type 0 where
  pub t : Trailer
  pub rows : List Keyed
  pub reads : Reads b t rows
  pub in_order : Rising no_rank (ranks_of rows)
  pub many : n ≡ length rows
