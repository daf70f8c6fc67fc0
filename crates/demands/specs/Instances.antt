-- Each demand's theorem once, on the desk's own rows, so that none is empty: what a theorem asks for is there, by computation, for a run that makes case 2's block with calls of every kind,
-- a refused row and longer buffers among them, for case 8's block, for two runs with other settings whose keys fall, and for one that offers a row twice.
use Rattle.std.specs.Prelude.{ℕ, zero, suc, ◌+◌, ◌<◌, ◌≤◌, ◌≡◌, refl, Bool, true, false, cond, List, [], ◌∷◌, ◌++◌, map, ltb, ℤ, negsuc, length, take, drop, replicate, get_or}
use Rattle.std.proofs.Common.{append-nil, ⊎_elim, arith}
use Rattle.std.specs.Int.Count.{count_leading_zeros}
use Rattle.layout.specs.Res.{Res, ok, refuse}
use Rattle.layout.specs.Limits.{max_key, max_restarts, max_block, max_interval}
use Rattle.layout.specs.Varint.{varint, varint_in, read_varint, read_varint_in}
use Rattle.layout.specs.Fixed.{big, unbig, bits}
use Rattle.layout.specs.Place.{varint_at, fixed_at, splice}
use Rattle.layout.specs.Key.{Key, below, may_follow, common, leading, first_at_or_above, first_above}
use Rattle.layout.specs.Row.{tombstone, Time, Absent, At, Row, time_bytes, row_bytes, key_length_tests, length_tests, encode_row, written, restore_key, Typed, plain_row}
use Rattle.layout.specs.RowRead.{RowRead, holds, lengths_at, head_tests, head_at, flags_at, body_tests, body_at, time_at, times_at, row_at, read_row}
use Rattle.layout.specs.Block.{is_restart, share_of, laid_row, rows_from, offsets_from, block_rows, offsets, offset_bytes, trailer, block_bytes}
use Rattle.layout.specs.Trailer.{short_at, Trailer, data_of, trailer_of, rising_from, all_offsets, region_of}
use Rattle.layout.specs.Builder.{Builder, kept_builder, fresh, new_builder, state_tests, fits, would_fit, add, state_after_of, build, block_after_of}
use Rattle.layout.specs.Check.{check_row, check_from, check}
use Rattle.layout.specs.Cursor.{ascending, descending, Cursor, kept_cursor, cursor_is, opened_up, opened_down, open_block, Keyed, step_up, next, key_after, is_empty}
use Rattle.layout.specs.Seek.{seek, sought_after}
use Rattle.demands.specs.Reads.{region_rows, regions_rows, Reads, all_rows, Accepts, content_of, keys_of}
use Rattle.layout.specs.Cases.{row_with, rows8 as offered8}
use Rattle.demands.specs.Lends.{Call, offer, would-fit, is-empty, finish, lend_on, lending_of, run, rows_of, BeginAlike}
use Rattle.demands.specs.Runs.{maker, Lending, Ran, Finishes, RoomFor, backwards, WalksAll, steps_by, steps_give, GivesFirst, KeysFit}
use Rattle.demands.specs.Rows.{DecodesBack, Rows, BothWays, SoughtUp, SoughtDown, FoundFirst}
use Rattle.demands.specs.Demand1.{refused-step, refused-seek, refused-add, refused-build, refused-encode, refused_restore, given-bytes, stale_bytes-tell-nothing, stale_bytes-empty, stale_bytes-seek, stale_bytes-fit, stale_bytes-add, stale_bytes-build}
use Rattle.demands.specs.Demand2.{decode-encode, check-exact, has-rows, room-enough, walk-any_buffers, first-at-or-above, last-at-or-below, walk_steps, seek_ascending_lands, seek_descending_lands, retry_found, restarts-at-most, finished-accepted, finished-refused}
use Rattle.demands.specs.Demand3.{run_finishes, blocks-differ, keys-fit, reads-forwards, reads-backwards, reads-any_buffers, row-begins-no-other, read-begins-no-other}
use Rattle.demands.specs.AnyOrder.{cut_from, regions_from, through, SoughtAmong}
use Rattle.demands.specs.OldBlocks.{former_max_key, Stand, old-blocks-stand}
use Rattle.demands.specs.DoubleDebit.{rank_at, no-double-debit, newest_first}
use Rattle.layout.proofs.Laws.Res.{ltb-cases, clash}
use Rattle.demands.specs.Laws.Refusals.{seek-never_18}

-- ---- case 2, by a run

abbrev row_a : Row
row_a = row_with (97 ∷ []) [] 1

abbrev row_aB : Row
row_aB = row_with (97 ∷ 98 ∷ []) (120 ∷ []) 2

-- an empty key is refused
abbrev no_key : Row
no_key = row_with [] [] 3

-- longer buffers, lent when the first row is in
abbrev longer : List ℕ
longer = row_bytes 0 (97 ∷ []) row_a.fields ++ replicate 35 9

abbrev pub calls2 : List Call
calls2 = is-empty ∷ offer row_a ∷ offer no_key ∷ finish ∷ lend_on longer (0 ∷ 5 ∷ []) ∷ would-fit row_aB ∷ offer row_aB ∷ []

abbrev start2 : Lending
start2 = lending_of maker (fresh 4096 16) (replicate 20 7) (replicate 1 7)

typed : (k : Key) (v : List ℕ) (q : ℕ) → q < 100 → Typed (row_with k v q).fields
typed k v q h = record { seq-fits = omega arith; expire-fits = tt; create-fits = tt }

pub case_2_ran : Ran 4096 16 calls2 (row_a ∷ row_aB ∷ []) (run maker start2 calls2)
unfolding count_leading_zeros run rows_of new_builder state_tests fits would_fit add build key_length_tests length_tests is_restart share_of laid_row row_bytes time_bytes big varint varint_in common splice trailer offset_bytes
case_2_ran =
    record {
      fresh-one = fresh 4096 16;
      bytes = replicate 20 7;
      places = replicate 1 7;
      is-new = refl;
      typed = (tt, (typed (97 ∷ []) [] 1 (omega arith), (typed [] [] 3 (omega arith), (tt, (alike, (tt, (typed (97 ∷ 98 ∷ []) (120 ∷ []) 2 (omega arith), tt)))))));
      rows_are = refl;
      ends = refl;
    }
  where
    alike : BeginAlike maker (run maker start2 (is-empty ∷ offer row_a ∷ offer no_key ∷ finish ∷ [])) longer (0 ∷ 5 ∷ [])
    alike = record { no_fewer_bytes = omega arith; no_fewer_places = omega arith; same_bytes = refl; same-places = refl }

pub case_2_finishes : Finishes (run maker start2 calls2) (block_bytes 16 (row_a ∷ row_aB ∷ []))
case_2_finishes = run_finishes 4096 16 calls2 (row_a ∷ row_aB ∷ []) (run maker start2 calls2) case_2_ran (omega arith)

-- and that block is case 2's
pub case_2_block : block_bytes 16 (row_a ∷ row_aB ∷ [])
    ≡ 0 ∷ 1 ∷ 0 ∷ 97 ∷ 0 ∷ 0 ∷ 0 ∷ 0 ∷ 0 ∷ 0 ∷ 0 ∷ 1 ∷ 0 ∷ 1 ∷ 1 ∷ 1 ∷ 98 ∷ 120 ∷ 0 ∷ 0 ∷ 0 ∷ 0 ∷ 0 ∷ 0 ∷ 0 ∷ 2 ∷ 0 ∷ 0 ∷ 0 ∷ 0 ∷ 1 ∷ []
unfolding block_bytes block_rows offsets rows_from offsets_from trailer offset_bytes is_restart share_of laid_row row_bytes time_bytes big varint varint_in common
case_2_block = refl

pub case_2_accepted : check (block_bytes 16 (row_a ∷ row_aB ∷ [])) ≡ ok 2
unfolding may_follow below
case_2_accepted =
    (finished-accepted 4096 16 calls2 (row_a ∷ row_aB ∷ []) (run maker start2 calls2) (block_bytes 16 (row_a ∷ row_aB ∷ [])) case_2_ran case_2_finishes).0 (refl, (refl, tt))

abbrev block2 : List ℕ
block2 = block_bytes 16 (row_a ∷ row_aB ∷ [])

pub case_2_forwards : (t : Trailer) × (given : List Keyed) × (open_block block2 ascending ≡ ok opened_up) × WalksAll block2 2 opened_up given
    × (map (content_of (data_of block2 t)) given ≡ map plain_row (row_a ∷ row_aB ∷ []))
case_2_forwards = reads-forwards 4096 16 calls2 (row_a ∷ row_aB ∷ []) (run maker start2 calls2) block2 case_2_ran case_2_finishes 2 (omega arith, (omega arith, tt))

pub case_2_backwards : (t : Trailer) × (given : List Keyed) × (open_block block2 descending ≡ ok (opened_down block2 t)) × WalksAll block2 2 (opened_down block2 t) (backwards given)
    × (map (content_of (data_of block2 t)) given ≡ map plain_row (row_a ∷ row_aB ∷ []))
case_2_backwards = reads-backwards 4096 16 calls2 (row_a ∷ row_aB ∷ []) (run maker start2 calls2) block2 case_2_ran case_2_finishes 2 (omega arith, (omega arith, tt))

pub case_2_any_buffers : (rooms : List ℕ) → (t : Trailer) × (given : List Keyed) × GivesFirst block2 opened_up rooms given × GivesFirst block2 (opened_down block2 t) rooms (backwards given)
    × (map (content_of (data_of block2 t)) given ≡ map plain_row (row_a ∷ row_aB ∷ []))
case_2_any_buffers rooms = reads-any_buffers 4096 16 calls2 (row_a ∷ row_aB ∷ []) (run maker start2 calls2) block2 case_2_ran case_2_finishes rooms

-- its keys are short, so it was built before the key limit rose, and reads the same
pub case_2_stands : Stand 16 (row_a ∷ row_aB ∷ []) block2
case_2_stands = old-blocks-stand 4096 16 calls2 (row_a ∷ row_aB ∷ []) (run maker start2 calls2) block2 case_2_ran case_2_finishes (omega arith, (omega arith, tt))

-- the run of case 2's first row alone accepts other rows, so it makes another block
abbrev calls1 : List Call
calls1 = offer row_a ∷ []

case_1_ran : Ran 4096 16 calls1 (row_a ∷ []) (run maker start2 calls1)
unfolding count_leading_zeros run rows_of new_builder state_tests fits would_fit add key_length_tests length_tests is_restart share_of laid_row row_bytes time_bytes big varint varint_in common splice
case_1_ran =
    record { fresh-one = fresh 4096 16; bytes = replicate 20 7; places = replicate 1 7; is-new = refl; typed = (typed (97 ∷ []) [] 1 (omega arith), tt); rows_are = refl; ends = refl }

pub case_2_differs : block_bytes 16 (row_a ∷ []) ≡ block2 → ⊥
case_2_differs =
    blocks-differ 4096 4096 16 16 calls1 calls2 (row_a ∷ []) (row_a ∷ row_aB ∷ []) (run maker start2 calls1) (run maker start2 calls2) (block_bytes 16 (row_a ∷ [])) block2 case_1_ran case_2_ran
    (run_finishes 4096 16 calls1 (row_a ∷ []) (run maker start2 calls1) case_1_ran (omega arith))
    case_2_finishes
    (λ e. let z : ◌≡◌ {A = ℕ} 0 1 = cc in omega arith)

-- case 2's second row after the key "a": encoded, and decoded before other bytes
pub case_2_decodes : DecodesBack 1 1 (98 ∷ []) row_aB.fields (row_bytes 1 (98 ∷ []) row_aB.fields) (1 ∷ 2 ∷ [])
unfolding encode_row length_tests key_length_tests row_bytes time_bytes big varint varint_in
case_2_decodes = decode-encode 1 1 (98 ∷ []) row_aB.fields 14 (row_bytes 1 (98 ∷ []) row_aB.fields) (1 ∷ 2 ∷ []) (typed (97 ∷ 98 ∷ []) (120 ∷ []) 2 (omega arith)) refl

-- ---- case 8

abbrev pub block8 : List ℕ
block8 = block_bytes 2 offered8

pub case_8_accepted : check block8 ≡ ok 5
unfolding block_bytes block_rows offsets rows_from offsets_from trailer offset_bytes is_restart share_of laid_row row_bytes time_bytes big varint varint_in common check check_from check_row trailer_of short_at unbig all_offsets rising_from region_of read_row row_at head_tests head_at lengths_at varint_at read_varint read_varint_in key_length_tests body_tests body_at fixed_at flags_at times_at time_at may_follow below
case_8_accepted = refl

pub case_8_exact : Accepts block8 5
case_8_exact = (check-exact block8 5).0 case_8_accepted

pub case_8_has-rows : (t : Trailer) × (rows : List Keyed) × Rows block8 5 t rows
case_8_has-rows = has-rows block8 5 case_8_accepted

-- its rows by computation: five in three regions
abbrev pub t8 : Trailer
t8 = record { count = 3; size = 64 }

abbrev pub unless_refused : Res (List (List Keyed)) → List (List Keyed)
unless_refused (ok regions) = regions
unless_refused (refuse n) = []

abbrev pub regions8 : List (List Keyed)
regions8 = unless_refused (regions_rows 3 block8 t8 0)

abbrev pub rows8 : List Keyed
rows8 = all_rows regions8

pub regions_read8 : Reads block8 t8 regions8
unfolding block_bytes block_rows offsets rows_from offsets_from trailer offset_bytes is_restart share_of laid_row row_bytes time_bytes big varint varint_in common regions_rows region_rows trailer_of short_at unbig all_offsets rising_from region_of read_row row_at head_tests head_at lengths_at varint_at read_varint read_varint_in key_length_tests body_tests body_at fixed_at flags_at times_at time_at
regions_read8 = record { trailer-good = refl; offsets-good = refl; rows-read = refl }

reads8 : Rows block8 5 t8 rows8
unfolding block_bytes block_rows offsets rows_from offsets_from trailer offset_bytes is_restart share_of laid_row row_bytes time_bytes big varint varint_in common regions_rows region_rows all_rows trailer_of short_at unbig all_offsets rising_from region_of read_row row_at head_tests head_at lengths_at varint_at read_varint read_varint_in key_length_tests body_tests body_at fixed_at flags_at times_at time_at may_follow below
reads8 =
    record {
      regions = regions8;
      reads = regions_read8;
      are = refl;
      in_order = (refl, (refl, (refl, (refl, (refl, tt)))));
      many = refl;
    }

room8 : RoomFor max_key rows8
room8 = room-enough block8 5 t8 rows8 reads8

pub case_8_walked : BothWays block8 t8 max_key rows8
case_8_walked = walk_steps block8 5 t8 rows8 reads8 max_key room8

-- of steps with key buffers of 0, 8, 0 and 1 bytes two are refused, and two give the first two rows
pub case_8_two-given : length (steps_give block8 opened_up (0 ∷ 8 ∷ 0 ∷ 1 ∷ [])) ≡ 2
unfolding block_bytes block_rows offsets rows_from offsets_from trailer offset_bytes is_restart share_of laid_row row_bytes time_bytes big varint varint_in common trailer_of short_at unbig region_of read_row row_at head_tests head_at lengths_at varint_at read_varint read_varint_in key_length_tests body_tests body_at fixed_at flags_at times_at time_at next step_up steps_by
case_8_two-given = refl

pub case_8_any_buffers : GivesFirst block8 opened_up (0 ∷ 8 ∷ 0 ∷ 1 ∷ []) rows8
case_8_any_buffers = (walk-any_buffers block8 5 t8 rows8 reads8 (0 ∷ 8 ∷ 0 ∷ 1 ∷ [])).0

pub case_8_ascending : SoughtUp block8 t8 (98 ∷ []) rows8 max_key
case_8_ascending = seek_ascending_lands block8 5 t8 rows8 reads8 max_key room8 (98 ∷ [])

pub case_8_descending : SoughtDown block8 t8 (98 ∷ []) rows8 max_key
case_8_descending = seek_descending_lands block8 5 t8 rows8 reads8 max_key room8 (98 ∷ [])

-- no two of its rows have one key and one number. Rows 1 and 3 have the key "b": so has row 2, which stands between them, with a smaller number than row 1
pub case_8_no-double : (i j : ℕ) → i < 5 → j < 5 → (rank_at rows8 i).key ≡ (rank_at rows8 j).key → (rank_at rows8 i).seq ≡ (rank_at rows8 j).seq → i ≡ j
case_8_no-double i j h l = no-double-debit block8 5 t8 regions8 case_8_accepted regions_read8 i j (omega (arith, reads8.many)) (omega (arith, reads8.many))

pub case_8_newest_first : ((rank_at rows8 2).key ≡ (rank_at rows8 1).key) × ((rank_at rows8 2).seq < (rank_at rows8 1).seq)
unfolding block_bytes block_rows offsets rows_from offsets_from trailer offset_bytes is_restart share_of laid_row row_bytes time_bytes big varint varint_in common regions_rows region_rows all_rows trailer_of short_at unbig all_offsets rising_from region_of read_row row_at head_tests head_at lengths_at varint_at read_varint read_varint_in key_length_tests body_tests body_at fixed_at flags_at times_at time_at
case_8_newest_first = newest_first block8 5 t8 regions8 case_8_accepted regions_read8 1 2 3 (omega arith) (omega arith) (omega (arith, reads8.many)) refl

-- row 1 has the key "b", so the row after the seek has it
pub case_8_retry : FoundFirst block8 (98 ∷ []) rows8 max_key case_8_ascending.c
unfolding block_bytes block_rows offsets rows_from offsets_from trailer offset_bytes is_restart share_of laid_row row_bytes time_bytes big varint varint_in common regions_rows region_rows all_rows trailer_of short_at unbig all_offsets rising_from region_of read_row row_at head_tests head_at lengths_at varint_at read_varint read_varint_in key_length_tests body_tests body_at fixed_at flags_at times_at time_at
case_8_retry =
    (retry_found block8 5 t8 rows8 reads8 max_key room8 (98 ∷ []) case_8_ascending.c case_8_ascending.reads case_8_ascending.is).0
    1
    (omega (arith, reads8.many))
    refl

abbrev pub are_bytes : List ℕ → Bool
are_bytes [] = true
are_bytes (x ∷ xs) = cond (ltb x 256) (are_bytes xs) false

pub are-bytes : (xs : List ℕ) → are_bytes xs ≡ true → (i : ℕ) → get_or xs i 0 < 256
are-bytes [] h i = omega arith
are-bytes (x ∷ xs) h zero = ⊎_elim (λ u. u.1) (λ u. absurd (clash (rw u.0 at h) refl)) (ltb-cases x 256)
are-bytes (x ∷ xs) h (suc i) = ⊎_elim (λ u. are-bytes xs (rw u.0 at h) i) (λ u. absurd (clash (rw u.0 at h) refl)) (ltb-cases x 256)

pub case_8_restarts : 3 ≤ max_restarts
unfolding block_bytes block_rows offsets rows_from offsets_from trailer offset_bytes is_restart share_of laid_row row_bytes time_bytes big varint varint_in common
case_8_restarts = restarts-at-most block8 5 t8 rows8 reads8 (are-bytes block8 refl)

-- row 1 is the first at or above "b", and row 3 the last at or below: so row 0 is below it, and row 4 above
pub case_8_parts : (first_at_or_above (98 ∷ []) (keys_of rows8) ≡ 1) × (first_above (98 ∷ []) (keys_of rows8) ≡ 4)
unfolding block_bytes block_rows offsets rows_from offsets_from trailer offset_bytes is_restart share_of laid_row row_bytes time_bytes big varint varint_in common regions_rows region_rows all_rows trailer_of short_at unbig all_offsets rising_from region_of read_row row_at head_tests head_at lengths_at varint_at read_varint read_varint_in key_length_tests body_tests body_at fixed_at flags_at times_at time_at first_at_or_above first_above leading below
case_8_parts = (refl, refl)

pub case_8_below : below (get_or (keys_of rows8) 0 []) (98 ∷ []) ≡ true
case_8_below = (first-at-or-above block8 5 t8 rows8 reads8 (98 ∷ []) 0 (omega (arith, reads8.many))).0 (omega (arith, case_8_parts.0))

pub case_8_above : below (98 ∷ []) (get_or (keys_of rows8) 4 []) ≡ true
case_8_above = (last-at-or-below block8 5 t8 rows8 reads8 (98 ∷ []) 4 (omega (arith, reads8.many))).1 (omega (arith, case_8_parts.1))

-- ---- one row, and bytes that tell nothing

-- after the key "a", case 2's two rows as `encode` writes them: neither begins the other
abbrev bytes_of_a : List ℕ
bytes_of_a = row_bytes 0 (97 ∷ []) row_a.fields

abbrev bytes_of_aB : List ℕ
bytes_of_aB = row_bytes 1 (98 ∷ []) row_aB.fields

pub case_2_begins-no-other : (tail : List ℕ) → bytes_of_a ++ tail ≡ bytes_of_aB → ⊥
unfolding encode_row length_tests key_length_tests row_bytes time_bytes big varint varint_in
case_2_begins-no-other tail e =
    let same = row-begins-no-other 1 0 (97 ∷ []) row_a.fields 13 bytes_of_a 1 (98 ∷ []) row_aB.fields 14 bytes_of_aB tail (typed (97 ∷ []) [] 1 (omega arith)) (typed (97 ∷ 98 ∷ []) (120 ∷ []) 2 (omega arith)) refl refl e in
    absurd (omega (arith, same.shares))

-- nor as they are read
pub case_2_decodes-first : DecodesBack 1 0 (97 ∷ []) row_a.fields bytes_of_a []
unfolding encode_row length_tests key_length_tests row_bytes time_bytes big varint varint_in
case_2_decodes-first = decode-encode 1 0 (97 ∷ []) row_a.fields 13 bytes_of_a [] (typed (97 ∷ []) [] 1 (omega arith)) refl

pub case_2_decodes-second : DecodesBack 1 1 (98 ∷ []) row_aB.fields bytes_of_aB []
unfolding encode_row length_tests key_length_tests row_bytes time_bytes big varint varint_in
case_2_decodes-second = decode-encode 1 1 (98 ∷ []) row_aB.fields 14 bytes_of_aB [] (typed (97 ∷ 98 ∷ []) (120 ∷ []) 2 (omega arith)) refl

pub case_2_read-begins-no-other : (tail : List ℕ) → bytes_of_a ++ tail ≡ bytes_of_aB → tail ≡ []
case_2_read-begins-no-other tail e =
    let a = case_2_decodes-first in
    let b = case_2_decodes-second in
    (read-begins-no-other 1 bytes_of_a bytes_of_aB tail a.row b.row (rw (append-nil bytes_of_a) at a.reads) a.ends (rw (append-nil bytes_of_aB) at b.reads) b.ends e).0

-- a cursor on case 8's block that has passed one row and carries its key "a", whatever bytes stand behind it, and two key buffers of eight bytes
abbrev after-a : List ℕ → Cursor
after-a x = kept_cursor ascending 0 13 1 1 (97 ∷ x) false

module _ (x y : List ℕ) where
  pub case_8_stale : next (after-a x) block8 8 ≡ next (after-a y) block8 8
  case_8_stale = (stale_bytes-tell-nothing ascending 0 13 1 1 false (97 ∷ x) (97 ∷ y) refl block8 (replicate 8 0) (replicate 8 7) refl).0

  pub case_8_stale_empty : is_empty (after-a x) block8 ≡ is_empty (after-a y) block8
  case_8_stale_empty = stale_bytes-empty ascending 0 13 1 1 false (97 ∷ x) (97 ∷ y) refl block8

  pub case_8_stale_seek : sought_after (seek ascending block8 (98 ∷ [])) (after-a x) ≡ sought_after (seek ascending block8 (98 ∷ [])) (after-a y)
  case_8_stale_seek = stale_bytes-seek ascending 0 13 1 1 false (97 ∷ x) (97 ∷ y) refl block8 (98 ∷ [])

-- the step gives row 1, number 1 of region 0, and its key "b" at the start of a buffer of sevens
row1 : RowRead
row1 = record { start = 13; next = 26; shared = 0; suffix_at = 16; suffix_len = 1; held = holds 17 0; seq = 4; expire = Absent; create = Absent }

pub case_8_given : let after = key_after (next (after-a []) block8 8) (replicate 8 7) in (take 1 after ≡ 98 ∷ []) × (drop 1 after ≡ drop 1 (replicate 8 7))
unfolding block_bytes block_rows offsets rows_from offsets_from trailer offset_bytes is_restart share_of laid_row row_bytes time_bytes big varint varint_in common trailer_of short_at unbig region_of read_row row_at head_tests head_at lengths_at varint_at read_varint read_varint_in key_length_tests body_tests body_at fixed_at flags_at times_at time_at next step_up row1
case_8_given = given-bytes (after-a []) block8 (replicate 8 7) (cursor_is ascending 1 26 0 [] false) 0 1 row1 (98 ∷ []) refl refl

-- a builder after case 2's first row, whatever bytes stand behind its key, over buffers of 48 bytes and two places
abbrev with-a : List ℕ → Builder
with-a x = kept_builder 4096 16 13 1 1 1 (97 ∷ x)

module _ (x y bytes places : List ℕ) where
  pub case_2_stale_fit : would_fit (with-a x) (length bytes) (length places) row_aB.key row_aB.fields ≡ would_fit (with-a y) (length bytes) (length places) row_aB.key row_aB.fields
  case_2_stale_fit = stale_bytes-fit 4096 16 13 1 1 1 (97 ∷ x) (97 ∷ y) refl bytes places row_aB.key row_aB.fields

  pub case_2_stale_add : add (with-a x) (length bytes) (length places) row_aB.key row_aB.fields ≡ add (with-a y) (length bytes) (length places) row_aB.key row_aB.fields
  case_2_stale_add = (stale_bytes-add 4096 16 13 1 1 1 (97 ∷ x) (97 ∷ y) refl bytes places row_aB.key row_aB.fields).0

  pub case_2_stale_build : build (with-a x) (length bytes) (length places) ≡ build (with-a y) (length bytes) (length places)
  case_2_stale_build = (stale_bytes-build 4096 16 13 1 1 1 (97 ∷ x) (97 ∷ y) refl bytes places).0

-- ---- refused calls change nothing

-- an empty key is refused with 1
pub case_2_refused : let want = add (fresh 4096 16) 48 2 [] no_key.fields in (want ≡ refuse 1) × (state_after_of want (fresh 4096 16) ≡ fresh 4096 16)
unfolding add would_fit state_tests length_tests key_length_tests
case_2_refused = (refl, (refused-add (fresh 4096 16) (replicate 48 7) (replicate 2 7) 1 [] no_key.fields refl).0)

-- a cursor that says its key has a byte more than any key is refused with 18
abbrev forged : Cursor
forged = kept_cursor ascending 0 1 0 (max_key + 1) [] false

pub case_8_refused-step : (next forged block8 8 ≡ refuse 18) × (key_after (next forged block8 8) (replicate 8 7) ≡ replicate 8 7)
unfolding block_bytes block_rows offsets rows_from offsets_from trailer offset_bytes is_restart share_of laid_row row_bytes time_bytes big varint varint_in common trailer_of short_at unbig next
case_8_refused-step = (refl, (refused-step forged block8 (replicate 8 7) 18 refl).1)

-- a seek in no bytes at all is refused with 14, as no seek is with 18
pub refused-sought : sought_after (seek ascending [] (98 ∷ [])) forged ≡ forged
unfolding seek trailer_of
refused-sought = refused-seek forged [] (98 ∷ []) 14 refl

pub never_18 : 14 < 18
unfolding seek trailer_of
never_18 = seek-never_18 ascending [] (98 ∷ []) 14 refl

-- a block of no row is refused with 7
pub refused-built : block_after_of (build (fresh 4096 16) 8 2) (fresh 4096 16) (replicate 8 7) (replicate 2 7) ≡ replicate 8 7
unfolding build state_tests
refused-built = refused-build (fresh 4096 16) (replicate 8 7) (replicate 2 7) 7 refl

-- a share of one byte after no key is refused with 13, written and restored
pub refused_encoded : written (encode_row 0 1 (98 ∷ []) row_aB.fields 8) (replicate 8 7) ≡ replicate 8 7
unfolding encode_row
refused_encoded = refused-encode 0 1 (98 ∷ []) row_aB.fields (replicate 8 7) 13 refl

pub refused_restored : written (restore_key [] 1 (98 ∷ []) 8) (replicate 8 7) ≡ replicate 8 7
unfolding restore_key
refused_restored = refused_restore [] 1 (98 ∷ []) (replicate 8 7) 13 refl

-- ---- two runs with other settings, whose first rows differ in one time alone; a tombstone is offered bytes, and the second run's keys fall

abbrev gone_at : Time → Time → Row
gone_at expire create = record { key = 98 ∷ []; fields = record { kind = tombstone; val = 1 ∷ 2 ∷ []; seq = 7; expire = expire; create = create } }

abbrev earliest : ℤ
earliest = negsuc 9223372036854775807

abbrev row_x : Row
row_x = gone_at (At earliest) Absent

abbrev row_y : Row
row_y = gone_at Absent (At earliest)

-- block size 0: after the first row none fits
abbrev calls_x : List Call
calls_x = offer row_x ∷ finish ∷ offer row_a ∷ would-fit row_x ∷ []

abbrev start_x : Lending
start_x = lending_of maker (fresh 0 1) (replicate 30 9) (replicate 1 9)

abbrev calls_y : List Call
calls_y = offer row_y ∷ offer row_a ∷ []

abbrev start_y : Lending
start_y = lending_of maker (fresh max_block max_interval) (replicate 64 3) (replicate 5 9)

ran-x : Ran 0 1 calls_x (row_x ∷ []) (run maker start_x calls_x)
unfolding count_leading_zeros run rows_of new_builder state_tests fits would_fit add build key_length_tests length_tests is_restart share_of laid_row row_bytes time_bytes big bits varint varint_in common splice trailer offset_bytes
ran-x =
    record {
      fresh-one = fresh 0 1;
      bytes = replicate 30 9;
      places = replicate 1 9;
      is-new = refl;
      typed = (record { seq-fits = omega arith; expire-fits = omega arith; create-fits = tt }, (tt, (typed (97 ∷ []) [] 1 (omega arith), (tt, tt))));
      rows_are = refl;
      ends = refl;
    }

ran-y : Ran max_block max_interval calls_y (row_y ∷ row_a ∷ []) (run maker start_y calls_y)
unfolding count_leading_zeros run rows_of new_builder state_tests fits would_fit add build key_length_tests length_tests is_restart share_of laid_row row_bytes time_bytes big bits varint varint_in common splice trailer offset_bytes
ran-y =
    record {
      fresh-one = fresh max_block max_interval;
      bytes = replicate 64 3;
      places = replicate 5 9;
      is-new = refl;
      typed = (record { seq-fits = omega arith; expire-fits = tt; create-fits = omega arith }, (typed (97 ∷ []) [] 1 (omega arith), tt));
      rows_are = refl;
      ends = refl;
    }

abbrev block_y : List ℕ
block_y = block_bytes max_interval (row_y ∷ row_a ∷ [])

finishes_y : Finishes (run maker start_y calls_y) block_y
finishes_y = run_finishes max_block max_interval calls_y (row_y ∷ row_a ∷ []) (run maker start_y calls_y) ran-y (omega arith)

pub one-time_differs : block_bytes 1 (row_x ∷ []) ≡ block_y → ⊥
one-time_differs =
    blocks-differ 0 max_block 1 max_interval calls_x calls_y (row_x ∷ []) (row_y ∷ row_a ∷ []) (run maker start_x calls_x) (run maker start_y calls_y) (block_bytes 1 (row_x ∷ [])) block_y ran-x ran-y
    (run_finishes 0 1 calls_x (row_x ∷ []) (run maker start_x calls_x) ran-x (omega arith))
    finishes_y
    (λ e. let z : ◌≡◌ {A = ℕ} 0 1 = cc in omega arith)

-- keys that fall: the block is refused with 17, and still reads back
pub falling-refused : check block_y ≡ refuse 17
unfolding may_follow below
falling-refused = finished-refused max_block max_interval calls_y (row_y ∷ row_a ∷ []) (run maker start_y calls_y) block_y ran-y finishes_y (λ o. clash o.1.0 refl)

pub falling-backwards : (t : Trailer) × (given : List Keyed) × (open_block block_y descending ≡ ok (opened_down block_y t)) × WalksAll block_y 1 (opened_down block_y t) (backwards given)
    × (map (content_of (data_of block_y t)) given ≡ map plain_row (row_y ∷ row_a ∷ []))
falling-backwards = reads-backwards max_block max_interval calls_y (row_y ∷ row_a ∷ []) (run maker start_y calls_y) block_y ran-y finishes_y 1 (omega arith, (omega arith, tt))

pub falling-keys-fit : KeysFit max_key (row_y ∷ row_a ∷ [])
falling-keys-fit = keys-fit max_block max_interval calls_y (row_y ∷ row_a ∷ []) (run maker start_y calls_y) ran-y

-- and it stands under the higher key limit: its rows are one region, "b" then "a", and every seek is told by them. Down to "a" it lands after the last row at or below it, the second
pub falling-stands : Stand max_interval (row_y ∷ row_a ∷ []) block_y
falling-stands = old-blocks-stand max_block max_interval calls_y (row_y ∷ row_a ∷ []) (run maker start_y calls_y) block_y ran-y finishes_y (omega arith, (omega arith, tt))

pub falling-region : regions_from max_interval 0 (row_y ∷ row_a ∷ []) ≡ (row_y ∷ row_a ∷ []) ∷ []
unfolding regions_from cut_from is_restart
falling-region = refl

pub falling-last : through (97 ∷ []) (row_y.key ∷ row_a.key ∷ []) ≡ 2
unfolding through below
falling-last = refl

-- ---- a key twice with one number: a builder takes both rows, and the check refuses the block; built before, it still stands, and every seek is told by the two

abbrev row_b : Row
row_b = row_with (98 ∷ []) [] 7

abbrev calls_b : List Call
calls_b = offer row_b ∷ offer row_b ∷ []

abbrev start_b : Lending
start_b = lending_of maker (fresh 4096 1) (replicate 32 9) (replicate 2 9)

abbrev block_b : List ℕ
block_b = block_bytes 1 (row_b ∷ row_b ∷ [])

ran-b : Ran 4096 1 calls_b (row_b ∷ row_b ∷ []) (run maker start_b calls_b)
unfolding count_leading_zeros run rows_of new_builder state_tests fits would_fit add build key_length_tests length_tests is_restart share_of laid_row row_bytes time_bytes big varint varint_in common splice trailer offset_bytes
ran-b =
    record {
      fresh-one = fresh 4096 1;
      bytes = replicate 32 9;
      places = replicate 2 9;
      is-new = refl;
      typed = (typed (98 ∷ []) [] 7 (omega arith), (typed (98 ∷ []) [] 7 (omega arith), tt));
      rows_are = refl;
      ends = refl;
    }

finishes_b : Finishes (run maker start_b calls_b) block_b
finishes_b = run_finishes 4096 1 calls_b (row_b ∷ row_b ∷ []) (run maker start_b calls_b) ran-b (omega arith)

pub twice-refused : check block_b ≡ refuse 17
unfolding may_follow below
twice-refused = finished-refused 4096 1 calls_b (row_b ∷ row_b ∷ []) (run maker start_b calls_b) block_b ran-b finishes_b (λ o. clash o.1.0 refl)

pub twice-stands : Stand 1 (row_b ∷ row_b ∷ []) block_b
twice-stands = old-blocks-stand 4096 1 calls_b (row_b ∷ row_b ∷ []) (run maker start_b calls_b) block_b ran-b finishes_b (omega arith, (omega arith, tt))

pub twice-sought : SoughtAmong block_b twice-stands.t (98 ∷ []) twice-stands.given former_max_key
twice-sought = twice-stands.sought (98 ∷ [])
