-- "Which row is this?": a row's number in its region, from 0, is how many rows of that region end at or before its start; a cursor carries how many end at or before its position.
use Rattle.std.specs.Prelude.{ℕ, zero, suc, ◌*◌, Bool, cond, ◌&&◌, ◌||◌, ltb, eqb}
use Rattle.layout.specs.Bytes.{Bytes}
use Rattle.layout.specs.Res.{Res, ok, refuse}
use Rattle.layout.specs.Limits.{least_row}
use Rattle.layout.specs.RowRead.{key_length}
use Rattle.layout.specs.Trailer.{Trailer, data_of, Region, region_of, row_in}

-- what is counted by an answer: by a refusal nothing
abbrev pub count_by : {A : Type 0} → Res A → (A → ℕ) → ℕ
count_by (ok a) f = f a
count_by (refuse n) f = 0

-- of the rows from `at` on, the first after a key of `prev_len` bytes, how many end at or before `stop`; as many steps as there are bytes are enough (`ended_from-enough`)
unfoldable pub ended_from : ℕ → Bytes → Region → ℕ → ℕ → ℕ → ℕ
ended_from zero d g stop at prev_len = 0
ended_from (suc left) d g stop at prev_len =
    count_by (row_in d g at prev_len) λ r.
    cond (ltb stop r.next) 0 (suc (ended_from left d g stop r.next (key_length r)))

-- of a region, read from its start
unfoldable pub ended_by : Bytes → Region → ℕ → ℕ
ended_by d g stop = ended_from stop d g stop g.start 0

-- of region number `region` of a block
unfoldable pub number_at : Bytes → Trailer → ℕ → ℕ → ℕ
number_at b t region stop = count_by (region_of b t region) λ g. ended_by (data_of b t) g stop

-- a number that can't be: 0 past the region's start, or above a twelfth of the bytes passed there
abbrev pub wrong_after : ℕ → ℕ → Bool
wrong_after passed n = (ltb 0 passed && eqb n 0) || ltb passed (least_row * n)
