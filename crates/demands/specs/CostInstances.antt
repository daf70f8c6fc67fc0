-- Each theorem of Cost and of NoGap once, so that none is empty: the figures for counts of restarts, and a block of three regions whose rows have the keys a, b | b, b | c, all by computation.
use Rattle.std.specs.Prelude.{ℕ, ◌+◌, ◌<◌, ◌≤◌, ◌≡◌, refl, false, List, [], ◌∷◌, drop, get_or}
use Rattle.std.proofs.Math.Path.{ap}
use Rattle.std.proofs.Common.{sym, ◌∙◌, arith}
use Rattle.std.specs.Int.Count.{count_leading_zeros}
use Rattle.std.proofs.Math.ListN.{length}
use Rattle.layout.specs.Res.{ok, bind}
use Rattle.layout.specs.Limits.{max_key}
use Rattle.layout.specs.Varint.{varint, varint_in, significant_bits, read_varint, read_varint_in}
use Rattle.layout.specs.Fixed.{big, unbig}
use Rattle.layout.specs.Place.{varint_at, fixed_at}
use Rattle.layout.specs.Key.{Key, below, may_follow, common, leading, first_at_or_above}
use Rattle.layout.specs.Row.{time_bytes, row_bytes, key_length_tests}
use Rattle.layout.specs.RowRead.{lengths_at, head_tests, head_at, flags_at, body_tests, body_at, time_at, times_at, row_at, read_row, read_key}
use Rattle.layout.specs.Block.{is_restart, share_of, laid_row, rows_from, offsets_from, block_rows, offsets, offset_bytes, trailer, block_bytes}
use Rattle.layout.specs.Trailer.{short_at, Trailer, trailer_of, rising_from, all_offsets, region_of}
use Rattle.layout.specs.Number.{ended_from, ended_by, number_at}
use Rattle.layout.specs.Check.{check}
use Rattle.layout.specs.Cursor.{ascending, descending, Cursor, cursor_is, Keyed}
use Rattle.layout.specs.Seek.{found_is, middle, search, search_in, restart_key, restart_below, search_restarts, walk_region, done_up, walk_up, seek_up, last_equal, start_down, walk_down, Sought, sought_is, seek}
use Rattle.layout.specs.Cases.{row_with}
use Rattle.demands.specs.Reads.{region_rows, regions_rows, all_rows}
use Rattle.demands.specs.Runs.{RoomFor}
use Rattle.demands.specs.Rows.{Rows}
use Rattle.demands.specs.Walked.{ReachedOn, StopsUp, StartsDown, WalkedAfter, equal_to, NoGap}
use Rattle.demands.specs.Cost.{bits_of, seek-reads-any, seek-reads-at-most, seek-reads_13, seek-reads-reached, each-count-reached, search-reads-reached, seek-up-regions, seek-up-stops, seek-down-region, seek-down-starts}
use Rattle.demands.specs.NoGap.{walked-rows-one, both-walked, no-row-between, walks-add-up, done-walks-none}
use Rattle.demands.specs.Demand2.{check-exact, room-enough, seek_ascending_lands}
use Rattle.demands.specs.Instances.{unless_refused, are-bytes}
use Rattle.layout.proofs.Laws.Res.{ok-inj}

-- ---- the figures

-- one restart, two and three, four and seven, and the most that a block can have
pub figures : (significant_bits 1 ≡ 1) × (significant_bits 2 ≡ 2) × (significant_bits 3 ≡ 2) × (significant_bits 4 ≡ 3) × (significant_bits 7 ≡ 3) × (significant_bits 4095 ≡ 12) × (significant_bits 4096 ≡ 13)
    × (significant_bits 5042 ≡ 13)
unfolding count_leading_zeros
figures = (refl, refl, refl, refl, refl, refl, refl, refl)

pub thirteen : significant_bits 5042 ≡ 13
thirteen = bits_of 12 5042 (omega arith) (omega arith) (omega arith)

pub search_5042 : search (λ (i : ℕ). ok false) 0 5042 ≡ ok (found_is 0 13)
unfolding count_leading_zeros
search_5042 = search-reads-reached 5042 (omega arith)

-- a block for the most restarts
pub most : ReachedOn 5042
most = each-count-reached 5042 (omega arith) (omega arith)

-- one restart: one key is read
pub one-restart : seek ascending (block_bytes 16 (row_with (97 ∷ []) [] 9 ∷ [])) (97 ∷ []) ≡ ok (sought_is (cursor_is ascending 0 0 0 [] false) 1)
unfolding block_bytes block_rows offsets rows_from offsets_from trailer offset_bytes is_restart share_of laid_row row_bytes time_bytes big varint varint_in common trailer_of short_at unbig region_of read_row row_at head_tests head_at lengths_at varint_at read_varint read_varint_in key_length_tests body_tests body_at fixed_at flags_at times_at time_at read_key below middle search_in search restart_key restart_below search_restarts walk_region walk_up seek_up seek number_at ended_by ended_from
one-restart = refl

-- ---- a block of three regions

abbrev block : List ℕ
block = block_bytes 2 (row_with (97 ∷ []) [] 9 ∷ row_with (98 ∷ []) [] 8 ∷ row_with (98 ∷ []) [] 7 ∷ row_with (98 ∷ []) [] 6 ∷ row_with (99 ∷ []) [] 5 ∷ [])

abbrev t : Trailer
t = record { count = 3; size = 64 }

abbrev regions : List (List Keyed)
regions = unless_refused (regions_rows 3 block t 0)

abbrev rows : List Keyed
rows = all_rows regions

reads : Rows block 5 t rows
unfolding block_bytes block_rows offsets rows_from offsets_from trailer offset_bytes is_restart share_of laid_row row_bytes time_bytes big varint varint_in common regions_rows region_rows all_rows trailer_of short_at unbig all_offsets rising_from region_of read_row row_at head_tests head_at lengths_at varint_at read_varint read_varint_in key_length_tests body_tests body_at fixed_at flags_at times_at time_at may_follow below
reads =
    record {
      regions = regions;
      reads = record { trailer-good = refl; offsets-good = refl; rows-read = refl };
      are = refl;
      in_order = (refl, (refl, (refl, (refl, (refl, tt)))));
      many = refl;
    }

room : RoomFor max_key rows
room = room-enough block 5 t rows reads

bytes : (i : ℕ) → get_or block i 0 < 256
unfolding block_bytes block_rows offsets rows_from offsets_from trailer offset_bytes is_restart share_of laid_row row_bytes time_bytes big varint varint_in common
bytes = are-bytes block refl

rows-accepted : (b : List ℕ) (n : ℕ) (t : Trailer) (rows : List Keyed) → Rows b n t rows → check b ≡ ok n
rows-accepted b n t rows q =
    (check-exact b n).1 (record { t = t; regions = q.regions; reads = q.reads; in_order = rw q.are at q.in_order; many = q.many ∙ ap length q.are })

accepted : check block ≡ ok 5
accepted = rows-accepted block 5 t rows reads

abbrev b : Key
b = 98 ∷ []

-- three restarts: at most two keys are read, and with the empty target two are
pub three-restarts : (s : Sought) × (seek ascending block b ≡ ok s) × (s.reads ≤ 2)
unfolding count_leading_zeros
three-restarts = seek-reads-at-most block bytes 5 accepted t reads.reads.trailer-good ascending b

pub three-reached : (s : Sought) × (seek descending block [] ≡ ok s) × (s.reads ≡ 2)
unfolding count_leading_zeros
three-reached = seek-reads-reached block bytes 5 accepted t reads.reads.trailer-good descending

pub three-any : (s : Sought) → seek descending block b ≡ ok s → s.reads ≤ 2
unfolding count_leading_zeros
three-any s e = seek-reads-any block bytes descending b t s reads.reads.trailer-good e

pub three_13 : (s : Sought) → seek ascending block b ≡ ok s → s.reads ≤ 13
three_13 s e = seek-reads_13 block bytes 5 accepted t reads.reads.trailer-good ascending b s e

-- and so it is by computation: the search for "b" reads the keys of the restarts 1 and 0, and closes at 1
pub search-b : search_restarts block t b ≡ ok (found_is 1 2)
unfolding block_bytes block_rows offsets rows_from offsets_from trailer offset_bytes is_restart share_of laid_row row_bytes time_bytes big varint varint_in common trailer_of short_at unbig region_of read_key head_tests head_at lengths_at varint_at read_varint read_varint_in key_length_tests below middle search_in search restart_key restart_below search_restarts
search-b = refl

-- the walk up reads rows of the regions 0 and 1, the walk down those of region 1, whose restart is the last one "b"
pub up-regions : seek ascending block b ≡ bind (walk_up 2 block t b 0) (λ (c : Cursor). ok (sought_is c 2))
up-regions = seek-up-regions block t reads.reads.trailer-good b (found_is 1 2) search-b

pub up-stops : (s : Sought) → seek ascending block b ≡ ok s → StopsUp block t 1 s.cursor
up-stops = seek-up-stops block t reads.reads.trailer-good b (found_is 1 2) search-b

pub start-b : start_down block t b 1 ≡ ok 1
unfolding block_bytes block_rows offsets rows_from offsets_from trailer offset_bytes is_restart share_of laid_row row_bytes time_bytes big varint varint_in common trailer_of short_at unbig region_of read_key head_tests head_at lengths_at varint_at read_varint read_varint_in key_length_tests below restart_key last_equal start_down
start-b = refl

pub down-region : seek descending block b ≡ bind (start_down block t b 1) (λ (region : ℕ). bind (walk_down 1 block t b region) (λ (c : Cursor). ok (sought_is c 2)))
down-region = seek-down-region block t reads.reads.trailer-good b (found_is 1 2) search-b

pub down-starts : StartsDown block t b 1 1
down-starts = seek-down-starts block t reads.reads.trailer-good b (found_is 1 2) search-b 1 start-b

-- ---- no row between

pub both-b : (up down : List Keyed) × WalkedAfter ascending block b max_key up × WalkedAfter descending block b max_key down
both-b = both-walked block 5 t rows reads max_key room b

module _ (up down : List Keyed) (v : WalkedAfter ascending block b max_key up) (w : WalkedAfter descending block b max_key down) where
  pub no-gap-b : NoGap b rows up down
  no-gap-b = no-row-between block 5 t rows reads max_key room b up down v w

  -- the five rows, and the three that have the key "b" once more
  pub five_and-three : length up + length down ≡ 5 + 3
  unfolding block_bytes block_rows offsets rows_from offsets_from trailer offset_bytes is_restart share_of laid_row row_bytes time_bytes big varint varint_in common regions_rows region_rows all_rows trailer_of short_at unbig all_offsets rising_from region_of read_row row_at head_tests head_at lengths_at varint_at read_varint read_varint_in key_length_tests body_tests body_at fixed_at flags_at times_at time_at equal_to below
  five_and-three = walks-add-up block 5 t rows reads max_key room b up down v w

  -- four rows up: all but "a"
  pub four-up : length up ≡ 4
  unfolding block_bytes block_rows offsets rows_from offsets_from trailer offset_bytes is_restart share_of laid_row row_bytes time_bytes big varint varint_in common regions_rows region_rows all_rows trailer_of short_at unbig all_offsets rising_from region_of read_row row_at head_tests head_at lengths_at varint_at read_varint read_varint_in key_length_tests body_tests body_at fixed_at flags_at times_at time_at first_at_or_above leading below
  four-up =
      let s = seek_ascending_lands block 5 t rows reads max_key room b in
      ap length (walked-rows-one ascending block b max_key up (drop 1 rows) v (record { c = s.c; reads = s.reads; is = s.is; walked = s.walked }))

-- above all keys: the ascending seek says "done", and nothing is walked after it
abbrev z : Key
z = 122 ∷ []

pub done-z : seek ascending block z ≡ ok (sought_is (done_up block t) 2)
unfolding block_bytes block_rows offsets rows_from offsets_from trailer offset_bytes is_restart share_of laid_row row_bytes time_bytes big varint varint_in common regions_rows region_rows all_rows trailer_of short_at unbig all_offsets rising_from region_of read_row row_at head_tests head_at lengths_at varint_at read_varint read_varint_in key_length_tests body_tests body_at fixed_at flags_at times_at time_at read_key below middle search_in search restart_key restart_below search_restarts walk_region walk_up seek_up seek
done-z = refl

pub none-after-z : (up down : List Keyed) → WalkedAfter ascending block z max_key up → WalkedAfter descending block z max_key down → up ≡ []
none-after-z up down v w =
    let is : v.c ≡ done_up block t = ap (λ (x : Sought). x.cursor) (ok-inj (sym v.is ∙ done-z)) in
    (done-walks-none block 5 t rows reads max_key room z up down v w).0.0 (ap (λ (x : Cursor). x.done) is)
