-- Each theorem of WhichRow once, so that none is empty, on case 8's block: rows a, b | b, b | c. A cursor that goes up, with a refused step and a seek on its way, and one that comes down meet in region 1
-- after its first row; the one that goes up is then asked for the row (1, 1), which the other has given.
use Rattle.std.specs.Prelude.{ℕ, ◌<◌, ◌≡◌, refl, false, List, [], ◌∷◌, reverse, length, get_or}
use Rattle.std.proofs.Common.{ap, ◌∙◌, arith}
use Rattle.layout.specs.Res.{ok}
use Rattle.layout.specs.Limits.{max_key}
use Rattle.layout.specs.Varint.{varint, varint_in, read_varint, read_varint_in}
use Rattle.layout.specs.Fixed.{big, unbig}
use Rattle.layout.specs.Place.{varint_at, fixed_at}
use Rattle.layout.specs.Key.{below, common}
use Rattle.layout.specs.Row.{Absent, time_bytes, row_bytes, key_length_tests}
use Rattle.layout.specs.RowRead.{RowRead, holds, lengths_at, head_tests, head_at, flags_at, body_tests, body_at, time_at, times_at, row_at, read_row, read_key}
use Rattle.layout.specs.Block.{is_restart, share_of, laid_row, rows_from, offsets_from, block_rows, offsets, offset_bytes, trailer, block_bytes}
use Rattle.layout.specs.Trailer.{short_at, trailer_of, rising_from, all_offsets, region_of}
use Rattle.layout.specs.Number.{ended_from, ended_by, number_at}
use Rattle.layout.specs.Cursor.{ascending, descending, Cursor, cursor_is, Keyed, keyed, found, step_is, opened_up, opened_down, open_along, open_block, step_up, row_ending_at, step_back_in, step_down, next}
use Rattle.layout.specs.Seek.{middle, search, search_in, restart_key, restart_below, search_restarts, walk_region, walk_up, seek_up, last_equal, start_down, last_at_or_below, walk_down, seek_down, sought_is, seek}
use Rattle.demands.specs.Reads.{region_rows, regions_rows, Names}
use Rattle.demands.specs.AnyOrder.{region_at}
use Rattle.demands.specs.Pairs.{CursorCall, step, seek-to, cursor_run, Reached, Pair, pair_is, pairs_of, pairs_in, pairs_from, NamesEach, ended_of}
use Rattle.demands.specs.WhichRow.{number_true, sought-number_true, pair-of-answer, pair-one-row, pair-tells-place, answers_agree, pair-is-entry, entry-has-pair, row-one-pair, number-counts-rows, rows_named, pairs-forwards, pairs-backwards}
use Rattle.demands.specs.Instances.{block8, t8, regions8, rows8, regions_read8, case_8_walked}

-- ---- two cursors that meet

-- the first step has no room for a key
abbrev calls_up : List CursorCall
calls_up = step 0 ∷ step 8 ∷ seek-to (98 ∷ []) ∷ step 8 ∷ step 8 ∷ []

abbrev up : Cursor
up = cursor_is ascending 1 39 1 (98 ∷ []) false

up-reached : Reached block8 up
unfolding block_bytes block_rows offsets rows_from offsets_from trailer offset_bytes is_restart share_of laid_row row_bytes time_bytes big varint varint_in common trailer_of short_at unbig all_offsets rising_from region_of read_row row_at head_tests head_at lengths_at varint_at read_varint read_varint_in key_length_tests body_tests body_at fixed_at flags_at times_at time_at number_at ended_by ended_from next step_up step_down step_back_in row_ending_at open_along open_block cursor_run read_key below middle search_in search restart_key restart_below search_restarts walk_region walk_up seek_up seek
up-reached = record { d = ascending; opened = opened_up; calls = calls_up; opens = refl; is = refl }

abbrev down : Cursor
down = cursor_is descending 1 39 1 [] false

down-reached : Reached block8 down
unfolding block_bytes block_rows offsets rows_from offsets_from trailer offset_bytes is_restart share_of laid_row row_bytes time_bytes big varint varint_in common trailer_of short_at unbig all_offsets rising_from region_of read_row row_at head_tests head_at lengths_at varint_at read_varint read_varint_in key_length_tests body_tests body_at fixed_at flags_at times_at time_at number_at ended_by ended_from next step_up step_down step_back_in row_ending_at open_along open_block cursor_run
down-reached = record { d = descending; opened = opened_down block8 t8; calls = step 8 ∷ step 8 ∷ []; opens = refl; is = refl }

abbrev good : trailer_of block8 ≡ ok t8
good = regions_read8.trailer-good

pub both_true : (up.number ≡ number_at block8 t8 1 39) × (down.number ≡ number_at block8 t8 1 39)
both_true = (number_true block8 t8 good up up-reached, number_true block8 t8 good down down-reached)

-- a seek down for "b" stands after both rows of region 1, whatever cursor came to it
pub two-sought : 2 ≡ number_at block8 t8 1 51
unfolding block_bytes block_rows offsets rows_from offsets_from trailer offset_bytes is_restart share_of laid_row row_bytes time_bytes big varint varint_in common trailer_of short_at unbig all_offsets rising_from region_of read_row row_at head_tests head_at lengths_at varint_at read_varint read_varint_in key_length_tests body_tests body_at fixed_at flags_at times_at time_at number_at ended_by ended_from read_key below middle search_in search restart_key restart_below search_restarts walk_region walk_up seek_up seek start_down last_equal last_at_or_below walk_down seek_down
two-sought = sought-number_true block8 t8 good descending (98 ∷ []) (sought_is (cursor_is descending 1 51 2 [] false) 2) refl

-- ---- the row (1, 1): it stands at 39, and the cursor that came down has given it with its last step

abbrev row3 : RowRead
row3 = record { start = 39; next = 51; shared = 1; suffix_at = 42; suffix_len = 0; held = holds 42 0; seq = 2; expire = Absent; create = Absent }

abbrev before-down : Cursor
before-down = cursor_is descending 2 51 0 [] false

before-reached : Reached block8 before-down
unfolding block_bytes block_rows offsets rows_from offsets_from trailer offset_bytes is_restart share_of laid_row row_bytes time_bytes big varint varint_in common trailer_of short_at unbig all_offsets rising_from region_of read_row row_at head_tests head_at lengths_at varint_at read_varint read_varint_in key_length_tests body_tests body_at fixed_at flags_at times_at time_at number_at ended_by ended_from next step_up step_down step_back_in row_ending_at open_along open_block cursor_run
before-reached = record { d = descending; opened = opened_down block8 t8; calls = step 8 ∷ []; opens = refl; is = refl }

up-gives : next up block8 8 ≡ ok (step_is (cursor_is ascending 2 51 0 [] false) (found 1 1 row3 (98 ∷ [])))
unfolding block_bytes block_rows offsets rows_from offsets_from trailer offset_bytes is_restart share_of laid_row row_bytes time_bytes big varint varint_in common trailer_of short_at unbig all_offsets rising_from region_of read_row row_at head_tests head_at lengths_at varint_at read_varint read_varint_in key_length_tests body_tests body_at fixed_at flags_at times_at time_at next step_up
up-gives = refl

down-gives : next before-down block8 8 ≡ ok (step_is down (found 1 1 row3 (98 ∷ [])))
unfolding block_bytes block_rows offsets rows_from offsets_from trailer offset_bytes is_restart share_of laid_row row_bytes time_bytes big varint varint_in common trailer_of short_at unbig all_offsets rising_from region_of read_row row_at head_tests head_at lengths_at varint_at read_varint read_varint_in key_length_tests body_tests body_at fixed_at flags_at times_at time_at number_at ended_by ended_from next step_down step_back_in row_ending_at
down-gives = refl

pub named : Names block8 t8 1 1 (keyed row3 (98 ∷ []))
named = pair-of-answer block8 t8 good up (cursor_is ascending 2 51 0 [] false) 8 1 1 row3 (98 ∷ []) up-reached up-gives

pub agreed : (row3.start ≡ row3.start → (◌≡◌ {A = ℕ} 1 1) × (◌≡◌ {A = ℕ} 1 1)) × (◌≡◌ {A = ℕ} 1 1 → ◌≡◌ {A = ℕ} 1 1 → keyed row3 (98 ∷ []) ≡ keyed row3 (98 ∷ []))
agreed =
    answers_agree block8 t8 good up before-down (cursor_is ascending 2 51 0 [] false) down 8 8 1 1 1 1 row3 row3 (98 ∷ []) (98 ∷ []) up-reached before-reached up-gives down-gives

-- no other row has that pair, and it no other pair
pub only_row : (k : Keyed) → Names block8 t8 1 1 k → k ≡ keyed row3 (98 ∷ [])
only_row k w = pair-one-row block8 t8 good 1 1 k (keyed row3 (98 ∷ [])) w named

pub only-pair : (region number : ℕ) (k : Keyed) → Names block8 t8 region number k → k.row.start ≡ 39 → (region ≡ 1) × (number ≡ 1)
only-pair region number k w s = row-one-pair block8 t8 regions8 regions_read8 region 1 number 1 k (keyed row3 (98 ∷ [])) w named s

pub its-number : ◌≡◌ {A = ℕ} 1 (number_at block8 t8 1 39)
its-number = pair-tells-place block8 t8 good 1 1 (keyed row3 (98 ∷ [])) named

-- it is entry 1 of region 1's rows, and the first row of region 2 has the pair (2, 0)
pub its-entry : (1 < length regions8) × (1 < length (region_at regions8 1)) × (get_or (region_at regions8 1) 1 (keyed row3 (98 ∷ [])) ≡ keyed row3 (98 ∷ []))
its-entry = pair-is-entry block8 t8 regions8 regions_read8 1 1 (keyed row3 (98 ∷ [])) named

pub last_row : Names block8 t8 2 0 (get_or (region_at regions8 2) 0 (keyed row3 (98 ∷ [])))
unfolding block_bytes block_rows offsets rows_from offsets_from trailer offset_bytes is_restart share_of laid_row row_bytes time_bytes big varint varint_in common trailer_of short_at unbig all_offsets rising_from region_of read_row row_at head_tests head_at lengths_at varint_at read_varint read_varint_in key_length_tests body_tests body_at fixed_at flags_at times_at time_at regions_rows region_rows
last_row = entry-has-pair block8 t8 regions8 regions_read8 2 0 (keyed row3 (98 ∷ [])) (omega arith) (omega arith)

-- of region 1's two rows one ends at or before 39
pub one_ended : 1 ≡ ended_of 39 (region_at regions8 1)
one_ended = (number-counts-rows block8 t8 regions8 regions_read8 up up-reached).1

-- ---- all five

abbrev pairs8 : List Pair
pairs8 = pair_is 0 0 ∷ pair_is 0 1 ∷ pair_is 1 0 ∷ pair_is 1 1 ∷ pair_is 2 0 ∷ []

pairs-are : pairs_from 0 regions8 ≡ pairs8
unfolding block_bytes block_rows offsets rows_from offsets_from trailer offset_bytes is_restart share_of laid_row row_bytes time_bytes big varint varint_in common trailer_of short_at unbig all_offsets rising_from region_of read_row row_at head_tests head_at lengths_at varint_at read_varint read_varint_in key_length_tests body_tests body_at fixed_at flags_at times_at time_at regions_rows region_rows pairs_in pairs_from
pairs-are = refl

pub all_named : NamesEach block8 t8 pairs8 rows8
all_named = rw (← pairs-are) (rows_named block8 t8 regions8 regions_read8)

pub in_order : pairs_of case_8_walked.forwards.walks ≡ pairs8
in_order = pairs-forwards block8 t8 regions8 regions_read8 rows8 refl max_key case_8_walked ∙ pairs-are

pub in_order-back : pairs_of case_8_walked.back.walks ≡ pair_is 2 0 ∷ pair_is 1 1 ∷ pair_is 1 0 ∷ pair_is 0 1 ∷ pair_is 0 0 ∷ []
in_order-back = pairs-backwards block8 t8 regions8 regions_read8 rows8 refl max_key case_8_walked ∙ ap reverse pairs-are
