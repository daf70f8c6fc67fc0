-- A block's rows, region by region, each read from its restart to the region's end. The order of rows is not asked: it stands beside, as `Rising`.
use Rattle.std.specs.Prelude.{ℕ, zero, suc, ◌+◌, ◌<◌, ◌≡◌, cond, not, List, [], ◌∷◌, ◌++◌, map, ltb, length}
use Rattle.layout.specs.Res.{Res, ok, bind, ◌when◌else◌}
use Rattle.layout.specs.Key.{Key, Rank, rank_is, no_rank, may_follow, Rising}
use Rattle.layout.specs.Row.{Row}
use Rattle.layout.specs.RowRead.{key_of, fields_of}
use Rattle.layout.specs.Trailer.{Trailer, trailer_of, data_of, Region, region_of, all_offsets, row_in}
use Rattle.layout.specs.Cursor.{Keyed, keyed}

-- the rows of a region from `at` on, after the key before; as many steps as there are bytes are enough (`region-more`)
unfoldable pub region_rows : ℕ → List ℕ → Region → ℕ → Key → Res (List Keyed)
region_rows zero d g at before = ok []
region_rows (suc left) d g at before =
    cond (ltb at g.end)
    (bind (row_in d g at (length before)) λ r.
    bind (region_rows left d g r.next (key_of d before r)) λ more.
    ok (keyed r (key_of d before r) ∷ more))
    (ok [])

-- row number `i` of a region, counted from 0 at the row at `at`: it is the one with so many before it (`rows-numbered`)
unfoldable pub row_number : ℕ → List ℕ → Region → ℕ → Key → Res Keyed
row_number zero d g at before = bind (row_in d g at (length before)) λ r. ok (keyed r (key_of d before r))
row_number (suc i) d g at before = bind (row_in d g at (length before)) λ r. row_number i d g r.next (key_of d before r)

-- the pair of region and number names this row of the block
pub record Names (b : List ℕ) (t : Trailer) (region number : ℕ) (k : Keyed) : Type 0 where
  pub g : Region
  pub inside : region < t.count
  pub used : region_of b t region ≡ ok g
  pub is : row_number number (data_of b t) g g.start [] ≡ ok k

-- the rows of as many regions, from `region` on
unfoldable pub regions_rows : ℕ → List ℕ → Trailer → ℕ → Res (List (List Keyed))
regions_rows zero b t region = ok []
regions_rows (suc left) b t region =
    bind (region_of b t region) λ g.
    bind (region_rows t.size (data_of b t) g g.start []) λ rows.
    bind (regions_rows left b t (suc region)) λ more.
    ok (rows ∷ more)

-- trailer and offsets are good, and all regions' rows are read
pub record Reads (b : List ℕ) (t : Trailer) (regions : List (List Keyed)) : Type 0 where
  pub trailer-good : trailer_of b ≡ ok t
  pub offsets-good : all_offsets b t ≡ ok tt
  pub rows-read : regions_rows t.count b t 0 ≡ ok regions

-- the block's rows, in order
unfoldable pub all_rows : List (List Keyed) → List Keyed
all_rows [] = []
all_rows (rows ∷ more) = rows ++ all_rows more

-- rows that were read, in the order of rows
abbrev pub ranks_of : List Keyed → List Rank
ranks_of ks = map (λ (k : Keyed). rank_is k.key k.row.seq) ks

-- what is made of rows that were read, `rows` of them before: counted while each may follow the one before, else 17
unfoldable pub verdict : Rank → List Rank → ℕ → Res ℕ
verdict before [] rows = ok rows
verdict before (r ∷ rs) rows = 17 when not (may_follow before r) else verdict r rs (rows + 1)

-- accepted: the rows are read, in order, and the answer is how many there are
pub record Accepts (b : List ℕ) (n : ℕ) : Type 0 where
  pub t : Trailer
  pub regions : List (List Keyed)
  pub reads : Reads b t regions
  pub in_order : Rising no_rank (ranks_of (all_rows regions))
  pub many : n ≡ length (all_rows regions)

-- ---- what is said of rows that were read

-- a row's key and what it holds, out of its places
abbrev pub content_of : List ℕ → Keyed → Row
content_of d k = record { key = k.key; fields = fields_of d k.row }

abbrev pub keys_of : List Keyed → List Key
keys_of ks = map (λ (k : Keyed). k.key) ks

-- what holds of each of some rows
abbrev pub AllOf : (Keyed → Type 0) → List Keyed → Type 0
AllOf P [] = Unit {0}
AllOf P (k ∷ ks) = P k × AllOf P ks
