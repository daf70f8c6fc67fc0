-- How a block of the earlier format is laid: rows, then one 2-byte offset for each row, then their 2-byte count, high byte first.
use Rattle.std.specs.Prelude.{ℕ, ◌+◌, List, [], ◌∷◌, ◌++◌, length, drop}
use Rattle.layout.specs.Bytes.{Bytes}
use Rattle.layout.specs.Key.{Key, common}
use Rattle.layout.specs.Row.{Fields, Row}
use Rattle.layout.specs.Block.{trailer}
use Rattle.layout_v1.specs.Row.{row_bytes}

-- the bytes of a row with this key: it shares its whole common prefix with the first key. Row 0 shares nothing: before it there is no key
unfoldable pub laid_row : Key → Key → Fields → Bytes
laid_row first key f = row_bytes (common first key) (drop (common first key) key) f

-- the bytes of these rows, after the first key
unfoldable pub rows_from : Key → List Row → Bytes
rows_from first [] = []
rows_from first (r ∷ rs) = laid_row first r.key r.fields ++ rows_from first rs

-- where these rows start, the first of them at `at`
unfoldable pub offsets_from : ℕ → Key → List Row → List ℕ
offsets_from at first [] = []
offsets_from at first (r ∷ rs) = at ∷ offsets_from (at + length (laid_row first r.key r.fields)) first rs

unfoldable pub block_rows : List Row → Bytes
block_rows [] = []
block_rows (r ∷ rs) = laid_row [] r.key r.fields ++ rows_from r.key rs

unfoldable pub offsets : List Row → List ℕ
offsets [] = []
offsets (r ∷ rs) = 0 ∷ offsets_from (length (laid_row [] r.key r.fields)) r.key rs

unfoldable pub block_bytes : List Row → Bytes
block_bytes rs = block_rows rs ++ trailer (offsets rs)
