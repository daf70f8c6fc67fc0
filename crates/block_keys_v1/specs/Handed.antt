-- Row 0's key by its place, and the search over all rows after it, for a trailer that a caller hands in with any numbers: 18 unless they are the block's.
use Rattle.std.specs.Prelude.{ℕ, List}
use Rattle.layout.specs.Res.{Res, bind}
use Rattle.layout.specs.Key.{Key}
use Rattle.layout.specs.RowRead.{KeyRead}
use Rattle.layout.specs.Trailer.{Trailer, data_of, region_of}
use Rattle.layout.specs.Cursor.{Direction}
use Rattle.layout.specs.Seek.{Found}
use Rattle.layout_v1.specs.RowRead.{read_key}
use Rattle.layout_v1.specs.Cursor.{the_first_key}
use Rattle.layout_v1.specs.Seek.{keeps_upper, search_rows}
use Rattle.trailer.specs.Handed.{handed}

-- read alone; it shares nothing
unfoldable pub first_place : List ℕ → Trailer → Res KeyRead
first_place b t =
    bind (region_of b t 0) λ g.
    read_key (data_of b t) g.start g.end 0

abbrev pub first_at : List ℕ → Trailer → Res KeyRead
first_at b t = handed b t 0 (first_place b t)

-- the seek's search: it keeps the upper part at the keys that the direction names
unfoldable pub row_found : List ℕ → Trailer → Direction → Key → Res Found
row_found b t d target =
    bind (the_first_key b t) λ first.
    search_rows b t first (keeps_upper d target)

abbrev pub row_found_at : List ℕ → Trailer → Direction → Key → Res Found
row_found_at b t d target = handed b t 0 (row_found b t d target)
