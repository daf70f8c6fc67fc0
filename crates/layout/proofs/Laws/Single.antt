-- A single row is the row at 0 of a region that is the whole input, and no restart.
use Rattle.std.specs.Prelude.{ℕ, ◌≡◌, refl, false, List, length}
use Rattle.layout.specs.RowRead.{decode_row, read_row}

pub single-is : (s : List ℕ) (prev_len : ℕ) → read_row s 0 (length s) prev_len false ≡ decode_row s prev_len
unfolding decode_row
single-is s prev_len = refl
