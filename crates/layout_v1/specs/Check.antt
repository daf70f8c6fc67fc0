-- The check of the earlier format: the trailer (14), all offsets (15), then rows in order, each from its offset to the next, 17 last of its row. It answers the number of rows.
use Rattle.std.specs.Prelude.{ℕ, zero, suc, cond, not, [], eqb, length}
use Rattle.layout.specs.Bytes.{Bytes}
use Rattle.layout.specs.Res.{Res, ok, bind, ◌when◌else◌}
use Rattle.layout.specs.Key.{Key, Rank, no_rank, may_follow}
use Rattle.layout.specs.RowRead.{RowRead, key_of}
use Rattle.layout.specs.Trailer.{Trailer, trailer_of, data_of, region_of, all_offsets}
use Rattle.layout.specs.Check.{read_rank}
use Rattle.layout_v1.specs.RowRead.{read_row}

-- ---- a row by its number, from 0: it runs from its offset to the next, or to the data's end; using it tests 15 for its offset and the next

-- what row i may share with: row 0 with nothing
abbrev pub before : Key → ℕ → Key
before first i = cond (eqb i 0) [] first

unfoldable pub row_numbered : Bytes → Trailer → Key → ℕ → Res RowRead
row_numbered b t first i =
    bind (region_of b t i) λ g.
    read_row (data_of b t) g.start g.end (length (before first i))

-- ---- how far the check has come: the next row's number, the first key, and the row before

pub record Passed : Type 0 where
  pub rows : ℕ
  pub first : Key
  pub last : Rank

abbrev pub passed_is : ℕ → Key → Rank → Passed
passed_is n first last = record { rows = n; first = first; last = last }

-- past a row: row 0's key is the first
abbrev pub passed_row : Bytes → Passed → RowRead → Passed
passed_row d p r =
    passed_is (suc p.rows) (cond (eqb p.rows 0) (key_of d [] r) p.first) (read_rank d (before p.first p.rows) r)

unfoldable pub check_row : Bytes → Trailer → Passed → Res Passed
check_row b t p =
    bind (row_numbered b t p.first p.rows) λ r.
    17 when not (may_follow p.last (read_rank (data_of b t) (before p.first p.rows) r)) else
    ok (passed_row (data_of b t) p r)

unfoldable pub check_from : ℕ → Bytes → Trailer → Passed → Res ℕ
check_from zero b t p = ok p.rows
check_from (suc left) b t p = bind (check_row b t p) λ q. check_from left b t q

unfoldable pub check : Bytes → Res ℕ
check b =
    bind (trailer_of b) λ t.
    bind (all_offsets b t) λ _.
    check_from t.count b t (passed_is 0 [] no_rank)
