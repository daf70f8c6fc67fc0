-- The reads of a whole restart region by a caller who may hand in any region: 18 for one that can't be read, then the rules' own reads.
use Rattle.std.specs.Prelude.{ℕ, List, [], ltb, leb, length}
use Rattle.layout.specs.Res.{Res, ok, bind, ◌when◌else◌}
use Rattle.layout.specs.Key.{Key}
use Rattle.layout.specs.Trailer.{Region}
use Rattle.layout.specs.Number.{ended_by}
use Rattle.layout.specs.Cursor.{row_ending_at}
use Rattle.layout.specs.Seek.{last_at_or_below}
use Rattle.block_regions_v2.specs.Regions.{Counted, counted}

-- where a row ends
abbrev pub end_numbered : List ℕ → Region → ℕ → Res (Counted ℕ)
end_numbered d g at = ok (counted at (ended_by d g at))

-- where the last row at or below a target ends, or the region's start: 18 for a region that ends after the data
unfoldable pub last_to : List ℕ → Region → Key → Res ℕ
last_to d g target =
    18 when ltb (length d) g.end else
    last_at_or_below (length d) d g target g.start [] g.start

-- how many rows a region has: 18 for one that can't have any, then the rows' own refusals
unfoldable pub rows_in : List ℕ → Region → Res ℕ
rows_in d g =
    18 when leb g.end g.start else
    bind (row_ending_at g.end d g g.end g.start []) λ _.
    ok (ended_by d g g.end)
