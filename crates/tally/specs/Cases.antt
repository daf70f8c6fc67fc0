-- The tally of the desk's case 2, also upon a tally one row short of the largest number; of two rows whose keys fall; and of a block of two restarts with a merge, a tombstone that has three value
-- bytes on the wire, and a value: by computation against the definitions.
use Rattle.std.specs.Prelude.{ℕ, ◌-◌, ◌≡◌, refl, List, [], ◌∷◌}
use Rattle.layout.specs.Res.{ok, refuse}
use Rattle.layout.specs.Fixed.{unbig, unbits}
use Rattle.layout.specs.Varint.{read_varint, read_varint_in}
use Rattle.layout.specs.Place.{varint_at, fixed_at}
use Rattle.layout.specs.Key.{below, may_follow}
use Rattle.layout.specs.Row.{key_length_tests}
use Rattle.layout.specs.RowRead.{lengths_at, head_tests, head_at, flags_at, body_tests, body_at, time_at, times_at, row_at, read_row}
use Rattle.layout.specs.Trailer.{short_at, trailer_of, rising_from, all_offsets, region_of}
use Rattle.layout.specs.Check.{check_row, check_from, check}
use Rattle.demands.specs.Reads.{region_rows, regions_rows, all_rows}
use Rattle.tally.specs.Tally.{tally_is, zero_tally, largest, counted_rows, tally_block}

abbrev case_2 : List ℕ
case_2 = 0 ∷ 1 ∷ 0 ∷ 97 ∷ 0 ∷ 0 ∷ 0 ∷ 0 ∷ 0 ∷ 0 ∷ 0 ∷ 1 ∷ 0 ∷ 1 ∷ 1 ∷ 1 ∷ 98 ∷ 120 ∷ 0 ∷ 0 ∷ 0 ∷ 0 ∷ 0 ∷ 0 ∷ 0 ∷ 2 ∷ 0 ∷ 0 ∷ 0 ∷ 0 ∷ 1 ∷ []

abbrev falling : List ℕ
falling = 0 ∷ 1 ∷ 0 ∷ 99 ∷ 0 ∷ 0 ∷ 0 ∷ 0 ∷ 0 ∷ 0 ∷ 0 ∷ 1 ∷ 0 ∷ 0 ∷ 1 ∷ 1 ∷ 98 ∷ 120 ∷ 0 ∷ 0 ∷ 0 ∷ 0 ∷ 0 ∷ 0 ∷ 0 ∷ 2 ∷ 0 ∷ 0 ∷ 0 ∷ 0 ∷ 1 ∷ []

abbrev mixed : List ℕ
mixed = 0 ∷ 1 ∷ 2 ∷ 97 ∷ 120 ∷ 121 ∷ 0 ∷ 0 ∷ 0 ∷ 0 ∷ 0 ∷ 0 ∷ 0 ∷ 1 ∷ 8 ∷ 1 ∷ 1 ∷ 3 ∷ 98 ∷ 120 ∷ 120 ∷ 120 ∷ 0 ∷ 0 ∷ 0 ∷ 0 ∷ 0 ∷ 0 ∷ 0 ∷ 2 ∷ 1 ∷ 0 ∷ 1 ∷ 1 ∷ 98 ∷ 122 ∷ 0 ∷ 0 ∷ 0 ∷ 0 ∷ 0 ∷ 0 ∷ 0 ∷ 3 ∷ 0 ∷ 0 ∷ 0 ∷ 0 ∷ 31 ∷ 0 ∷ 2 ∷ []

cases-hold :
    (tally_block zero_tally case_2 ≡ ok (tally_is 2 0 0 1))
    × (tally_block (tally_is (largest - 1) 5 6 7) case_2 ≡ ok (tally_is largest 5 6 8))
    × (tally_block zero_tally falling ≡ refuse 17)
    × (tally_block zero_tally mixed ≡ ok (tally_is 3 1 1 3))
unfolding read_varint read_varint_in unbig unbits varint_at fixed_at below may_follow key_length_tests lengths_at head_tests head_at flags_at body_tests body_at time_at times_at row_at read_row short_at trailer_of rising_from all_offsets region_of check_row check_from check region_rows regions_rows all_rows counted_rows tally_block
cases-hold = (refl, refl, refl, refl)
