-- Each theorem of the earlier format once, on a block of three rows, so that none is empty: a value, a tombstone with both times whose offered byte is ignored, and a merge. What
-- a theorem asks for is there, by computation, for a run that makes this block with calls of every kind, a refused row and longer buffers among them; and for a run whose keys
-- fall.
use Rattle.std.specs.Prelude.{ℕ, ◌<◌, ◌≤◌, ◌≡◌, refl, true, List, [], ◌∷◌, ◌++◌, map, pos, negsuc, length, replicate, get_or}
use Rattle.std.proofs.Common.{append-nil, arith}
use Rattle.std.specs.Int.Count.{count_leading_zeros}
use Rattle.layout.specs.Res.{ok, refuse}
use Rattle.layout.specs.Limits.{max_key, max_restarts}
use Rattle.layout.specs.Fixed.{big, unbig, bits, unbits}
use Rattle.layout.specs.Place.{fixed_at, splice}
use Rattle.layout.specs.Key.{below, may_follow, common, leading, first_at_or_above, first_above}
use Rattle.layout.specs.Row.{tombstone, merge, Absent, At, Row, time_bytes, key_length_tests, length_tests, Typed, plain_row}
use Rattle.layout.specs.RowRead.{holds, gone, merges, head_tests, flags_at, time_at, times_at}
use Rattle.layout.specs.Block.{offset_bytes, trailer}
use Rattle.layout.specs.Trailer.{short_at, Trailer, trailer_is, trailer_of, data_of, rising_from, all_offsets, region_of}
use Rattle.layout.specs.Cursor.{ascending, descending, Keyed, keyed}
use Rattle.layout.specs.Cases.{row_with}
use Rattle.layout_v1.specs.Row.{row_bytes, encode_row}
use Rattle.layout_v1.specs.RowRead.{head_at, body_at, value_at, held_at, row_at, read_row, decode_row, read_key}
use Rattle.layout_v1.specs.Block.{laid_row, rows_from, offsets_from, block_rows, offsets, block_bytes}
use Rattle.layout_v1.specs.Builder.{fresh, new_builder, state_tests, fits, would_fit, add, build}
use Rattle.layout_v1.specs.Check.{row_numbered, check}
use Rattle.layout_v1.specs.Cursor.{key_numbered, next, step_to, open_block}
use Rattle.layout_v1.specs.Seek.{Sought, seek}
use Rattle.demands.specs.Lends.{Call, offer, would-fit, is-empty, finish, lend_on, lending_of, run, rows_of, BeginAlike}
use Rattle.demands.specs.Reads.{content_of, keys_of}
use Rattle.demands.specs.Rows.{DecodesTo, FoundFirstOf}
use Rattle.demands.specs.DoubleDebit.{rank_at}
use Rattle.demands.specs.Runs.{RoomFor, KeysFit, backwards, steps_by}
use Rattle.demands.specs.Instances.{are-bytes}
use Rattle.demands_v1.specs.Reads.{Accepts}
use Rattle.demands_v1.specs.Runs.{maker, Lending, Ran, Finishes, WalksAll, steps_give, GivesFirst}
use Rattle.demands_v1.specs.Rows.{Rows, opened, BothWays, SoughtUp, SoughtDown, BetweenNumbers, Given}
use Rattle.demands_v1.specs.Demand2.{decode-encode, check-exact, has-rows, rows-at-most, room-enough, walk-any_buffers, first-at-or-above, last-at-or-below, no-row-between, no-double-debit, walk_steps, seek_ascending_lands, seek_descending_lands, retry_found, seek-reads-any, seek-reads-at-most, finished-accepted, finished-refused}
use Rattle.demands_v1.specs.Demand3.{run_finishes, blocks-differ, keys-fit, reads-forwards, reads-backwards, reads-any_buffers, row-begins-no-other, read-begins-no-other}
use Rattle.layout.proofs.Laws.Res.{clash}

-- ---- a run of three rows

abbrev row_a : Row
row_a = row_with (97 ∷ []) [] 1

abbrev row_aB : Row
row_aB = record { key = 97 ∷ 98 ∷ []; fields = record { kind = tombstone; val = 120 ∷ []; seq = 2; expire = At (pos 5); create = At (negsuc 0) } }

abbrev row_b : Row
row_b = record { key = 98 ∷ []; fields = record { kind = merge; val = 121 ∷ []; seq = 3; expire = Absent; create = Absent } }

abbrev three : List Row
three = row_a ∷ row_aB ∷ row_b ∷ []

-- an empty key is refused
abbrev no_key : Row
no_key = row_with [] [] 4

abbrev bytes_a : List ℕ
bytes_a = 0 ∷ 0 ∷ 0 ∷ 1 ∷ 97 ∷ 0 ∷ 0 ∷ 0 ∷ 0 ∷ 0 ∷ 0 ∷ 0 ∷ 1 ∷ 0 ∷ 0 ∷ 0 ∷ 0 ∷ 0 ∷ []

abbrev bytes_aB : List ℕ
bytes_aB = 0 ∷ 1 ∷ 0 ∷ 1 ∷ 98 ∷ 0 ∷ 0 ∷ 0 ∷ 0 ∷ 0 ∷ 0 ∷ 0 ∷ 2 ∷ 7 ∷ 0 ∷ 0 ∷ 0 ∷ 0 ∷ 0 ∷ 0 ∷ 0 ∷ 5 ∷ 255 ∷ 255 ∷ 255 ∷ 255 ∷ 255 ∷ 255 ∷ 255 ∷ 255 ∷ []

abbrev bytes_b : List ℕ
bytes_b = 0 ∷ 0 ∷ 0 ∷ 1 ∷ 98 ∷ 0 ∷ 0 ∷ 0 ∷ 0 ∷ 0 ∷ 0 ∷ 0 ∷ 3 ∷ 8 ∷ 0 ∷ 0 ∷ 0 ∷ 1 ∷ 121 ∷ []

abbrev pub block : List ℕ
block = bytes_a ++ (bytes_aB ++ (bytes_b ++ (0 ∷ 0 ∷ 0 ∷ 18 ∷ 0 ∷ 48 ∷ 0 ∷ 3 ∷ [])))

-- longer buffers, lent when the first row is in
abbrev longer : List ℕ
longer = bytes_a ++ replicate 57 9

abbrev calls : List Call
calls = is-empty ∷ offer row_a ∷ offer no_key ∷ finish ∷ lend_on longer (0 ∷ 5 ∷ 6 ∷ []) ∷ would-fit row_aB ∷ offer row_aB ∷ offer row_b ∷ []

abbrev start : Lending
start = lending_of maker (fresh 4096) (replicate 22 7) (replicate 1 7)

typed-a : Typed row_a.fields
typed-a = record { seq-fits = omega arith; expire-fits = tt; create-fits = tt }

typed_ab : Typed row_aB.fields
typed_ab = record { seq-fits = omega arith; expire-fits = omega arith; create-fits = omega arith }

typed-b : Typed row_b.fields
typed-b = record { seq-fits = omega arith; expire-fits = tt; create-fits = tt }

no_key_lem : Typed no_key.fields
no_key_lem = record { seq-fits = omega arith; expire-fits = tt; create-fits = tt }

pub three-ran : Ran 4096 calls three (run maker start calls)
unfolding run rows_of new_builder state_tests fits would_fit add build key_length_tests length_tests laid_row row_bytes time_bytes big bits common splice trailer offset_bytes
three-ran =
    record {
      fresh-one = fresh 4096;
      bytes = replicate 22 7;
      places = replicate 1 7;
      is-new = refl;
      typed = (tt, (typed-a, (no_key_lem, (tt, (alike, (tt, (typed_ab, (typed-b, tt))))))));
      rows_are = refl;
      ends = refl;
    }
  where
    alike : BeginAlike maker (run maker start (is-empty ∷ offer row_a ∷ offer no_key ∷ finish ∷ [])) longer (0 ∷ 5 ∷ 6 ∷ [])
    alike = record { no_fewer_bytes = omega arith; no_fewer_places = omega arith; same_bytes = refl; same-places = refl }

-- its block, by computation
pub three-block : block_bytes three ≡ block
unfolding block_bytes block_rows offsets rows_from offsets_from laid_row row_bytes trailer offset_bytes time_bytes big bits common
three-block = refl

pub three_finishes : Finishes (run maker start calls) block
three_finishes = rw three-block at (run_finishes 4096 calls three (run maker start calls) three-ran (omega arith))

pub three-accepted : check block ≡ ok 3
unfolding may_follow below
three-accepted = (finished-accepted 4096 calls three (run maker start calls) block three-ran three_finishes).0 (refl, (refl, (refl, tt)))

pub three-keys-fit : KeysFit max_key three
three-keys-fit = keys-fit 4096 calls three (run maker start calls) three-ran

pub three-forwards : (t : Trailer) × (given : List Keyed) × (open_block block ascending ≡ ok (opened ascending)) × WalksAll block 2 (opened ascending) given
    × (map (content_of (data_of block t)) given ≡ map plain_row three)
three-forwards = reads-forwards 4096 calls three (run maker start calls) block three-ran three_finishes 2 (omega arith, (omega arith, (omega arith, tt)))

pub three-backwards : (t : Trailer) × (given : List Keyed) × (open_block block descending ≡ ok (opened descending)) × WalksAll block 2 (opened descending) (backwards given)
    × (map (content_of (data_of block t)) given ≡ map plain_row three)
three-backwards = reads-backwards 4096 calls three (run maker start calls) block three-ran three_finishes 2 (omega arith, (omega arith, (omega arith, tt)))

pub three-any_buffers : (rooms : List ℕ) → (t : Trailer) × (given : List Keyed) × GivesFirst block (opened ascending) rooms given
    × GivesFirst block (opened descending) rooms (backwards given) × (map (content_of (data_of block t)) given ≡ map plain_row three)
three-any_buffers rooms = reads-any_buffers 4096 calls three (run maker start calls) block three-ran three_finishes rooms

-- ---- a run of two, whose keys fall: another block, which is refused with 17

abbrev calls_f : List Call
calls_f = offer row_b ∷ offer row_a ∷ []

abbrev start_f : Lending
start_f = lending_of maker (fresh 64) (replicate 43 9) (replicate 2 9)

falling-ran : Ran 64 calls_f (row_b ∷ row_a ∷ []) (run maker start_f calls_f)
unfolding run rows_of new_builder state_tests fits would_fit add key_length_tests length_tests laid_row row_bytes time_bytes big common splice
falling-ran =
    record { fresh-one = fresh 64; bytes = replicate 43 9; places = replicate 2 9; is-new = refl; typed = (typed-b, (typed-a, tt)); rows_are = refl; ends = refl }

falling_finishes : Finishes (run maker start_f calls_f) (block_bytes (row_b ∷ row_a ∷ []))
falling_finishes = run_finishes 64 calls_f (row_b ∷ row_a ∷ []) (run maker start_f calls_f) falling-ran (omega arith)

pub falling_differs : block ≡ block_bytes (row_b ∷ row_a ∷ []) → ⊥
falling_differs =
    blocks-differ 4096 64 calls calls_f three (row_b ∷ row_a ∷ []) (run maker start calls) (run maker start_f calls_f) block (block_bytes (row_b ∷ row_a ∷ [])) three-ran falling-ran three_finishes falling_finishes
    (λ e. let z : ◌≡◌ {A = ℕ} 0 1 = cc in omega arith)

pub falling-refused : check (block_bytes (row_b ∷ row_a ∷ [])) ≡ refuse 17
unfolding may_follow below
falling-refused =
    finished-refused 64 calls_f (row_b ∷ row_a ∷ []) (run maker start_f calls_f) (block_bytes (row_b ∷ row_a ∷ [])) falling-ran falling_finishes (λ o. clash o.1.0 refl)

-- ---- one row: the tombstone after the key "a", and the value before it

pub tombstone_decodes : (post : List ℕ) → DecodesTo (decode_row (bytes_aB ++ post) 1) 1 (98 ∷ []) row_aB.fields bytes_aB post
unfolding encode_row length_tests key_length_tests row_bytes time_bytes big bits
tombstone_decodes post = decode-encode 1 1 (98 ∷ []) row_aB.fields 30 bytes_aB post typed_ab refl

pub value-decodes : (post : List ℕ) → DecodesTo (decode_row (bytes_a ++ post) 1) 0 (97 ∷ []) row_a.fields bytes_a post
unfolding encode_row length_tests key_length_tests row_bytes time_bytes big
value-decodes post = decode-encode 1 0 (97 ∷ []) row_a.fields 18 bytes_a post typed-a refl

pub begins-no-other : (tail : List ℕ) → bytes_a ++ tail ≡ bytes_aB → ⊥
unfolding encode_row length_tests key_length_tests row_bytes time_bytes big bits
begins-no-other tail e =
    let same = row-begins-no-other 1 0 (97 ∷ []) row_a.fields 18 bytes_a 1 (98 ∷ []) row_aB.fields 30 bytes_aB tail typed-a typed_ab refl refl e in
    absurd (omega (arith, same.shares))

pub read-no-other : (tail : List ℕ) → bytes_a ++ tail ≡ bytes_aB → tail ≡ []
read-no-other tail e =
    let a = value-decodes [] in
    let b = tombstone_decodes [] in
    (read-begins-no-other 1 bytes_a bytes_aB tail a.row b.row (rw (append-nil bytes_a) at a.reads) a.ends (rw (append-nil bytes_aB) at b.reads) b.ends e).0

-- ---- the accepted block

pub three-exact : Accepts block 3
three-exact = (check-exact block 3).0 three-accepted

pub three-has-rows : (t : Trailer) × (rows : List Keyed) × Rows block 3 t rows
three-has-rows = has-rows block 3 three-accepted

pub three-at-most : 3 ≤ max_restarts
three-at-most = rows-at-most block 3 three-accepted (are-bytes block refl)

-- its rows, by computation
abbrev t3 : Trailer
t3 = trailer_is 3 67

abbrev k_a : Keyed
k_a = keyed (record { start = 0; next = 18; shared = 0; suffix_at = 4; suffix_len = 1; held = holds 18 0; seq = 1; expire = Absent; create = Absent }) (97 ∷ [])

abbrev k_aB : Keyed
k_aB = keyed (record { start = 18; next = 48; shared = 1; suffix_at = 22; suffix_len = 1; held = gone; seq = 2; expire = At (pos 5); create = At (negsuc 0) }) (97 ∷ 98 ∷ [])

abbrev k_b : Keyed
k_b = keyed (record { start = 48; next = 67; shared = 0; suffix_at = 52; suffix_len = 1; held = merges 66 1; seq = 3; expire = Absent; create = Absent }) (98 ∷ [])

abbrev rows3 : List Keyed
rows3 = k_a ∷ k_aB ∷ k_b ∷ []

pub three-rows : Rows block 3 t3 rows3
unfolding row_numbered all_offsets rising_from trailer_of short_at unbig unbits region_of read_row row_at head_at body_at value_at held_at head_tests key_length_tests fixed_at flags_at times_at time_at may_follow below
three-rows =
    record {
      reads =
          record {
            trailer-good = refl;
            offsets-good = refl;
            rows-read =
                (record { inside = omega arith; is = refl; key-is = refl }, (record { inside = omega arith; is = refl; key-is = refl }, (record { inside = omega arith; is = refl; key-is = refl }, tt)));
            count-is = refl;
          };
      in_order = (refl, (refl, (refl, tt)));
      many = refl;
    }

room3 : RoomFor max_key rows3
room3 = room-enough block 3 t3 rows3 three-rows

pub three-walked : BothWays block max_key rows3
three-walked = walk_steps block 3 t3 rows3 three-rows max_key room3

-- of steps with key buffers of 0, 8, 1 and 2 bytes two are refused, and two give the first two rows
pub three-two-given : length (steps_give block (opened ascending) (0 ∷ 8 ∷ 1 ∷ 2 ∷ [])) ≡ 2
unfolding steps_by next step_to key_numbered row_numbered read_key trailer_of short_at unbig unbits region_of read_row row_at head_at body_at value_at held_at head_tests key_length_tests fixed_at flags_at times_at time_at
three-two-given = refl

pub three_buffers : GivesFirst block (opened ascending) (0 ∷ 8 ∷ 1 ∷ 2 ∷ []) rows3
three_buffers = (walk-any_buffers block 3 t3 rows3 three-rows (0 ∷ 8 ∷ 1 ∷ 2 ∷ [])).0

-- row 1 is the first at or above "ab", and the last at or below: so row 0 is below it, and row 2 above
pub three-parts : (first_at_or_above (97 ∷ 98 ∷ []) (keys_of rows3) ≡ 1) × (first_above (97 ∷ 98 ∷ []) (keys_of rows3) ≡ 2)
unfolding first_at_or_above first_above leading below
three-parts = (refl, refl)

pub three-below : below (get_or (keys_of rows3) 0 []) (97 ∷ 98 ∷ []) ≡ true
three-below = (first-at-or-above block 3 t3 rows3 three-rows (97 ∷ 98 ∷ []) 0 (omega arith)).0 (omega (arith, three-parts.0))

pub three-above : below (97 ∷ 98 ∷ []) (get_or (keys_of rows3) 2 []) ≡ true
three-above = (last-at-or-below block 3 t3 rows3 three-rows (97 ∷ 98 ∷ []) 2 (omega arith)).1 (omega (arith, three-parts.1))

-- the row "ab" is walked after both seeks for it, and it is the only one
pub three-between : BetweenNumbers (97 ∷ 98 ∷ []) rows3 1
three-between = no-row-between block 3 t3 rows3 three-rows (97 ∷ 98 ∷ []) 1 (omega arith)

pub three-no-double : (i j : ℕ) → i < 3 → j < 3 → (rank_at rows3 i).key ≡ (rank_at rows3 j).key → (rank_at rows3 i).seq ≡ (rank_at rows3 j).seq → i ≡ j
three-no-double i j h l = no-double-debit block 3 t3 rows3 three-rows i j h l

pub three_ascending : SoughtUp block (97 ∷ 98 ∷ []) rows3 max_key
three_ascending = seek_ascending_lands block 3 t3 rows3 three-rows max_key room3 (97 ∷ 98 ∷ [])

pub three_descending : SoughtDown block (97 ∷ 98 ∷ []) rows3 max_key
three_descending = seek_descending_lands block 3 t3 rows3 three-rows max_key room3 (97 ∷ 98 ∷ [])

-- row 1 has the key "ab", so the row after the seek has it
pub three_retry : FoundFirstOf (Given block max_key three_ascending.c) (97 ∷ 98 ∷ []) rows3
three_retry =
    (retry_found block 3 t3 rows3 three-rows max_key room3 (97 ∷ 98 ∷ []) three_ascending.c three_ascending.reads three_ascending.is).0 1 (omega arith) refl

-- and the search read at most two keys of three
pub three-reads : three_ascending.reads ≤ 2
unfolding count_leading_zeros
three-reads = seek-reads-any block (are-bytes block refl) ascending (97 ∷ 98 ∷ []) t3 _ three-rows.reads.trailer-good three_ascending.is

pub three-reads-down : (s : Sought) × (seek descending block (98 ∷ []) ≡ ok s) × (s.reads ≤ 2) × (s.reads ≤ 13)
unfolding count_leading_zeros
three-reads-down = seek-reads-at-most block 3 three-accepted (are-bytes block refl) descending (98 ∷ [])
