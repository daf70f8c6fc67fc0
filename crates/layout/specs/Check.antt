-- "The check": the trailer (14), all offsets (15), then rows one after another from 0 to the data's end, 17 last of its row. It answers the number of rows.
use Rattle.std.specs.Prelude.{ℕ, zero, suc, ◌+◌, cond, not, ltb, length}
use Rattle.layout.specs.Bytes.{Bytes}
use Rattle.layout.specs.Res.{Res, ok, bind, ◌when◌else◌}
use Rattle.layout.specs.Key.{Key, Rank, rank_is, no_rank, may_follow}
use Rattle.layout.specs.RowRead.{RowRead, key_of}
use Rattle.layout.specs.Trailer.{Trailer, trailer_of, data_of, Region, region_of, all_offsets, row_in}

-- how far the check has come: the place of the next row, its region, the row before it, and the rows passed
pub record Passed : Type 0 where
  pub at : ℕ
  pub region : ℕ
  pub before : Rank
  pub rows : ℕ

abbrev pub passed_is : ℕ → ℕ → Rank → ℕ → Passed
passed_is at region before rows = record { at = at; region = region; before = before; rows = rows }

-- a row that was read after a key, in the order of rows
abbrev pub read_rank : Bytes → Key → RowRead → Rank
read_rank d before r = rank_is (key_of d before r) r.seq

-- past a row: its region's end is where the next region starts
abbrev pub passed_row : Bytes → Passed → Region → RowRead → Passed
passed_row d p g r = passed_is r.next (cond (ltb r.next g.end) p.region (p.region + 1)) (read_rank d p.before.key r) (p.rows + 1)

unfoldable pub check_row : Bytes → Trailer → Passed → Res Passed
check_row b t p =
    bind (region_of b t p.region) λ g.
    bind (row_in (data_of b t) g p.at (length p.before.key)) λ r.
    17 when not (may_follow p.before (read_rank (data_of b t) p.before.key r)) else
    ok (passed_row (data_of b t) p g r)

-- as many steps as there are bytes are enough (`check_from-enough`): each row moves on
unfoldable pub check_from : ℕ → Bytes → Trailer → Passed → Res ℕ
check_from zero b t p = ok p.rows
check_from (suc left) b t p = cond (ltb p.at t.size) (bind (check_row b t p) λ q. check_from left b t q) (ok p.rows)

unfoldable pub check : Bytes → Res ℕ
check b =
    bind (trailer_of b) λ t.
    bind (all_offsets b t) λ _.
    check_from t.size b t (passed_is 0 0 no_rank 0)
