-- The four counts of a block: its rows, the tombstones and the merges among them, and the lengths of all values that the rows carry.
use Rattle.std.specs.Prelude.{ℕ, ◌+◌, min, List, [], ◌∷◌}
use Rattle.layout.specs.Res.{Res, ok, bind}
use Rattle.layout.specs.RowRead.{Held, holds, gone, merges}
use Rattle.layout.specs.Trailer.{trailer_of, all_offsets}
use Rattle.layout.specs.Cursor.{Keyed}
use Rattle.demands.specs.Reads.{regions_rows, all_rows}
use Rattle.layout.specs.Check.{check}
use Rattle.tally.specs.declared.Tally.{Tally}

abbrev pub tally_is : ℕ → ℕ → ℕ → ℕ → Tally
tally_is rows tombstones merged bytes = record { rows = rows; tombstones = tombstones; merges = merged; value_bytes = bytes }

abbrev pub zero_tally : Tally
zero_tally = tally_is 0 0 0 0

-- ---- one row

-- the largest number that a count holds, 2 ^ 64 - 1: a sum that would pass it stays at it
abbrev pub largest : ℕ
largest = 18446744073709551615

abbrev pub added : ℕ → ℕ → ℕ
added count n = min (count + n) largest

-- a value adds its length, and so does a merge; a tombstone adds no bytes, whatever stands on the wire
abbrev pub counted : Tally → Held → Tally
counted t (holds at n) = tally_is (added t.rows 1) t.tombstones t.merges (added t.value_bytes n)
counted t gone = tally_is (added t.rows 1) (added t.tombstones 1) t.merges t.value_bytes
counted t (merges at n) = tally_is (added t.rows 1) t.tombstones (added t.merges 1) (added t.value_bytes n)

-- ---- a block

-- each row in turn
unfoldable pub counted_rows : Tally → List Keyed → Tally
counted_rows t [] = t
counted_rows t (k ∷ ks) = counted_rows (counted t k.row.held) ks

-- the rows of a block, in order
abbrev pub block_rows : List ℕ → Res (List Keyed)
block_rows b =
    bind (trailer_of b) λ t.
    bind (all_offsets b t) λ _.
    bind (regions_rows t.count b t 0) λ regions.
    ok (all_rows regions)

-- the verdict is the whole check's, 17 included; a block that it accepts has each row counted
unfoldable pub tally_block : Tally → List ℕ → Res Tally
tally_block t b =
    bind (check b) λ _.
    bind (block_rows b) λ rows.
    ok (counted_rows t rows)
