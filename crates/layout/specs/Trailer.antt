-- A block as it is read: its trailer (14), its offsets (15) and its restart regions.
use Rattle.std.specs.Prelude.{ℕ, zero, suc, ◌+◌, ◌-◌, ◌*◌, cond, ltb, leb, eqb, length, take, drop}
use Rattle.layout.specs.Bytes.{Bytes}
use Rattle.layout.specs.Res.{Res, ok, ◌when◌else◌}
use Rattle.layout.specs.Fixed.{unbig}
use Rattle.layout.specs.RowRead.{RowRead, read_row}

-- two bytes, high byte first
unfoldable pub short_at : Bytes → ℕ → ℕ
short_at b at = unbig (take 2 (drop at b))

abbrev pub count_of : Bytes → ℕ
count_of b = short_at b (length b - 2)

-- how many restarts there are, and how many bytes of rows
pub record Trailer : Type 0 where
  pub count : ℕ
  pub size : ℕ

abbrev pub trailer_is : ℕ → ℕ → Trailer
trailer_is n d = record { count = n; size = d }

-- block under 2 bytes, count 0, or trailer longer than the block: 14
unfoldable pub trailer_of : Bytes → Res Trailer
trailer_of b =
    14 when ltb (length b) 2 else
    14 when eqb (count_of b) 0 else
    14 when ltb (length b) (2 + 2 * count_of b) else
    ok (trailer_is (count_of b) (length b - (2 + 2 * count_of b)))

-- the rows' bytes
abbrev pub data_of : Bytes → Trailer → Bytes
data_of b t = take t.size b

abbrev pub offset_at : Bytes → Trailer → ℕ → ℕ
offset_at b t r = short_at b (t.size + 2 * r)

-- ---- all of 15: the first is 0, each is above the one before, each is below the data length

unfoldable pub rising_from : ℕ → Bytes → Trailer → ℕ → ℕ → Res (Unit {0})
rising_from zero b t r low = ok tt
rising_from (suc left) b t r low =
    15 when ltb (offset_at b t r) low else
    15 when leb t.size (offset_at b t r) else
    rising_from left b t (suc r) (suc (offset_at b t r))

unfoldable pub all_offsets : Bytes → Trailer → Res (Unit {0})
all_offsets b t =
    15 when ltb 0 (offset_at b t 0) else
    rising_from t.count b t 0 0

-- ---- a restart region runs from its offset to the next, or to the data's end; using it tests 15 for its offset and the next

-- `reach` is the last right position of an ascending cursor: before the end, in the last region also at the end
pub record Region : Type 0 where
  pub start : ℕ
  pub end : ℕ
  pub reach : ℕ

abbrev pub region_is : ℕ → ℕ → ℕ → Region
region_is s e r = record { start = s; end = e; reach = r }

-- what must be 0: the offset of region 0; of every other region nothing, so 0
abbrev pub first_of : ℕ → ℕ → ℕ
first_of r offset = cond (eqb r 0) offset 0

unfoldable pub region_of : Bytes → Trailer → ℕ → Res Region
region_of b t r =
    15 when ltb 0 (first_of r (offset_at b t r)) else
    15 when leb t.size (offset_at b t r) else
    cond (ltb (r + 1) t.count)
    (15 when leb (offset_at b t (r + 1)) (offset_at b t r) else
    15 when leb t.size (offset_at b t (r + 1)) else
    ok (region_is (offset_at b t r) (offset_at b t (r + 1)) (offset_at b t (r + 1) - 1)))
    (ok (region_is (offset_at b t r) t.size t.size))

-- the next row of a region, after a key of `prev_len` bytes: at the region's start it is a restart
abbrev pub row_in : Bytes → Region → ℕ → ℕ → Res RowRead
row_in d g at prev_len = read_row d at g.end prev_len (eqb at g.start)
