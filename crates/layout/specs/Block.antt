-- "How a block is laid": rows, then one 2-byte offset for each restart, then their 2-byte count, high byte first.
use Rattle.std.specs.Prelude.{ℕ, suc, ◌+◌, ◌%◌, Bool, cond, List, [], ◌∷◌, ◌++◌, eqb, length, drop}
use Rattle.layout.specs.Bytes.{Bytes}
use Rattle.layout.specs.Fixed.{big}
use Rattle.layout.specs.Key.{Key, common}
use Rattle.layout.specs.Row.{Fields, Row, row_bytes}

-- a row is a restart when its number, from 0, is a multiple of the interval
unfoldable pub is_restart : ℕ → ℕ → Bool
is_restart interval i = eqb (i % interval) 0

-- a restart shares 0 bytes; any other row shares its whole common prefix with the row before
unfoldable pub share_of : Bool → Key → Key → ℕ
share_of restart before key = cond restart 0 (common before key)

-- the bytes of a row with this key after the row before
unfoldable pub laid_row : Bool → Key → Key → Fields → Bytes
laid_row restart before key f = row_bytes (share_of restart before key) (drop (share_of restart before key) key) f

-- the bytes of row i and of those after it
unfoldable pub rows_from : ℕ → ℕ → Key → List Row → Bytes
rows_from interval i before [] = []
rows_from interval i before (r ∷ rs) = laid_row (is_restart interval i) before r.key r.fields ++ rows_from interval (suc i) r.key rs

-- where the restarts among row i, which starts at `at`, and those after it start
unfoldable pub offsets_from : ℕ → ℕ → ℕ → Key → List Row → List ℕ
offsets_from interval i at before [] = []
offsets_from interval i at before (r ∷ rs) =
    let more = offsets_from interval (suc i) (at + length (laid_row (is_restart interval i) before r.key r.fields)) r.key rs in
    cond (is_restart interval i) (at ∷ more) more

unfoldable pub block_rows : ℕ → List Row → Bytes
block_rows interval rs = rows_from interval 0 [] rs

unfoldable pub offsets : ℕ → List Row → List ℕ
offsets interval rs = offsets_from interval 0 0 [] rs

unfoldable pub offset_bytes : List ℕ → Bytes
offset_bytes [] = []
offset_bytes (o ∷ os) = big 2 o ++ offset_bytes os

unfoldable pub trailer : List ℕ → Bytes
trailer os = offset_bytes os ++ big 2 (length os)

unfoldable pub block_bytes : ℕ → List Row → Bytes
block_bytes interval rs = block_rows interval rs ++ trailer (offsets interval rs)
