-- Cases of blocks of the earlier format, in a single list, as `CasesRows` of `layout_v1` has those of rows; `cases-hold` is the one fact over it, by computation against the
-- definitions.
use Rattle.std.specs.Prelude.{ℕ, zero, suc, ◌≡◌, refl, Bool, true, false, List, [], ◌∷◌, ◌++◌, pos, negsuc, length, take, replicate}
use Rattle.layout.specs.Bytes.{Bytes}
use Rattle.layout.specs.Res.{Res, ok, refuse}
use Rattle.layout.specs.Limits.{max_key, max_block}
use Rattle.layout.specs.Fixed.{big, unbig, bits, unbits}
use Rattle.layout.specs.Place.{fixed_at, splice}
use Rattle.layout.specs.Key.{Key, below, common, may_follow}
use Rattle.layout.specs.Row.{tombstone, At, Row, time_bytes, key_length_tests, length_tests}
use Rattle.layout.specs.RowRead.{head_tests, flags_at, time_at, times_at, fields_of}
use Rattle.layout.specs.Block.{offset_bytes, trailer}
use Rattle.layout.specs.Trailer.{short_at, trailer_of, rising_from, all_offsets, region_of}
use Rattle.layout.specs.Cursor.{Direction, ascending, descending}
use Rattle.layout.specs.Seek.{middle, search_in, search}
use Rattle.layout.specs.Cases.{number_of, row_with}
use Rattle.layout_v1.specs.Row.{row_bytes}
use Rattle.layout_v1.specs.RowRead.{head_at, body_at, value_at, held_at, row_at, read_row, read_key}
use Rattle.layout_v1.specs.Block.{laid_row, rows_from, offsets_from, block_rows, offsets, block_bytes}
use Rattle.layout_v1.specs.Builder.{Builder, kept_builder, fresh, state_tests, fits, would_fit, add, build}
use Rattle.layout_v1.specs.Check.{row_numbered, check_row, check_from, check}
use Rattle.layout_v1.specs.Cursor.{Cursor, cursor_is, key_numbered, Answer, found, done, Step, step_is, step_to, next, open_block, is_empty}
use Rattle.layout_v1.specs.Seek.{key_passes, search_rows, sought_is, seek}
use Rattle.layout_v1.specs.CasesRows.{fields_is, row_of}
use Rattle.demands.specs.Lends.{offer, finish, lending_of, add_to, build_of, after}
use Rattle.demands_v1.specs.Runs.{maker, Lending}

-- ---- a builder that is offered rows, over buffers that hold something before

abbrev pub started : ℕ → Lending
started size = lending_of maker (fresh size) (replicate 96 255) (replicate 4 255)

-- 0 for a row that is taken, else the refusal's number
unfoldable pub answers : Lending → List Row → List ℕ
answers h [] = []
answers h (r ∷ rs) = number_of (add_to maker h r) ∷ answers (after maker h (offer r)) rs

unfoldable pub offered : Lending → List Row → Lending
offered h [] = h
offered h (r ∷ rs) = offered (after maker h (offer r)) rs

-- the block's length is answered, and the block stands at the buffer's start
abbrev pub block_in : Res ℕ → Bytes → Bytes
block_in (ok n) bytes = take n bytes
block_in (refuse n) bytes = []

unfoldable pub finished : Lending → Bytes
finished h = block_in (build_of maker h) (after maker h finish).bytes

-- one row, of the key "a", has used so many bytes
abbrev pub used_up_to : ℕ → Builder
used_up_to n = kept_builder max_block n 1 1 (97 ∷ [])

-- ---- what a cursor's steps tell: a row's number, the row, and how many rows are passed then; "done", and how many are passed; or a refusal, which ends the list

pub data Seen : Type 0 where
  gave : ℕ → Row → ℕ → Seen
  over : ℕ → Seen
  no : ℕ → Seen

abbrev pub seen_as : Bytes → Answer → ℕ → Seen
seen_as b (found number r key) n = gave number (row_of key (fields_of b r)) n
seen_as b done n = over n

abbrev pub seen_by : Bytes → Res Step → (Cursor → List Seen) → List Seen
seen_by b (ok s) more = seen_as b s.answer s.cursor.passed ∷ more s.cursor
seen_by b (refuse n) more = no n ∷ []

unfoldable pub seen : ℕ → Cursor → Bytes → List Seen
seen zero c b = []
seen (suc n) c b = seen_by b (next c b max_key) (λ c'. seen n c' b)

-- ---- the cases

pub data Case : Type 0 where
  -- rows: the bytes of their block, and where they start
  lays : List Row → Bytes → List ℕ → Case
  -- block size and the rows offered: the answer to each, and the finished block
  builds : ℕ → List Row → List ℕ → Bytes → Case
  -- a row offered where so many bytes are used, and there is room: the refusal, 0 for none
  starts_at : ℕ → ℕ → Case
  -- a block: what the check answers
  checks : Bytes → Res ℕ → Case
  -- a block opened: the refusal, 0 for none
  opens : Bytes → Direction → ℕ → Case
  -- a block opened: what each step tells
  travels : Bytes → Direction → List Seen → Case
  -- any cursor on a block: what each step tells
  steps : Bytes → Cursor → List Seen → Case
  -- any cursor on a block: "done" gives it back as it came, and needs no key buffer
  rests : Bytes → Cursor → Case
  -- any cursor on a block: `is_empty`
  empties : Bytes → Cursor → Bool → Case
  -- a seek in a block: how many rows are passed then, how many keys were read, and what the step after it tells
  seeks : Bytes → Direction → Key → ℕ → ℕ → Seen → Case
  -- a seek that is refused
  seeks_not : Bytes → Direction → Key → ℕ → Case

abbrev pub Holds : Case → Type 0
Holds (lays rows bytes starts) = (block_bytes rows ≡ bytes) × (offsets rows ≡ starts)
Holds (builds size rows said block) = (answers (started size) rows ≡ said) × (finished (offered (started size) rows) ≡ block)
Holds (starts_at used n) = number_of (add (used_up_to used) max_block 2 (98 ∷ []) (row_with (98 ∷ []) [] 2).fields) ≡ n
Holds (checks b answer) = check b ≡ answer
Holds (opens b d n) = number_of (open_block b d) ≡ n
Holds (travels b d told) = (open_block b d ≡ ok (cursor_is d 0)) × (seen (length told) (cursor_is d 0) b ≡ told)
Holds (steps b c told) = seen (length told) c b ≡ told
Holds (rests b c) = next c b 0 ≡ ok (step_is c done)
Holds (empties b c answer) = is_empty c b ≡ ok answer
Holds (seeks b d target passed reads told) = (seek d b target ≡ ok (sought_is (cursor_is d passed) reads)) × (seen 1 (cursor_is d passed) b ≡ told ∷ [])
Holds (seeks_not b d target n) = number_of (seek d b target) ≡ n

abbrev pub AllHold : List Case → Type 0
AllHold [] = Unit {0}
AllHold (c ∷ cs) = Holds c × AllHold cs

-- the keys a, ab and b
abbrev key_a : Key
key_a = 97 ∷ []

abbrev key_aB : Key
key_aB = 97 ∷ 98 ∷ []

abbrev key_b : Key
key_b = 98 ∷ []

abbrev row_a : Row
row_a = row_with key_a [] 1

abbrev row_aB : Row
row_aB = row_with key_aB (120 ∷ []) 2

abbrev row_b : Row
row_b = row_with key_b [] 3

abbrev three : List Row
three = row_a ∷ row_aB ∷ row_b ∷ []

abbrev bytes_a : Bytes
bytes_a = 0 ∷ 0 ∷ 0 ∷ 1 ∷ 97 ∷ 0 ∷ 0 ∷ 0 ∷ 0 ∷ 0 ∷ 0 ∷ 0 ∷ 1 ∷ 0 ∷ 0 ∷ 0 ∷ 0 ∷ 0 ∷ []

abbrev bytes_aB : Bytes
bytes_aB = 0 ∷ 1 ∷ 0 ∷ 1 ∷ 98 ∷ 0 ∷ 0 ∷ 0 ∷ 0 ∷ 0 ∷ 0 ∷ 0 ∷ 2 ∷ 0 ∷ 0 ∷ 0 ∷ 0 ∷ 1 ∷ 120 ∷ []

abbrev bytes_b : Bytes
bytes_b = 0 ∷ 0 ∷ 0 ∷ 1 ∷ 98 ∷ 0 ∷ 0 ∷ 0 ∷ 0 ∷ 0 ∷ 0 ∷ 0 ∷ 3 ∷ 0 ∷ 0 ∷ 0 ∷ 0 ∷ 0 ∷ []

abbrev block3 : Bytes
block3 = bytes_a ++ (bytes_aB ++ (bytes_b ++ (0 ∷ 0 ∷ 0 ∷ 18 ∷ 0 ∷ 37 ∷ 0 ∷ 3 ∷ [])))

-- the trailer of two rows, the second of which starts there
abbrev two_rows : ℕ → Bytes
two_rows at = 0 ∷ 0 ∷ 0 ∷ at ∷ 0 ∷ 2 ∷ []

abbrev block2 : Bytes
block2 = bytes_a ++ (bytes_aB ++ two_rows 18)

-- a tombstone of so many shared bytes, no suffix, and the number 2
abbrev sharing : ℕ → Bytes
sharing n = 0 ∷ n ∷ 0 ∷ 0 ∷ 0 ∷ 0 ∷ 0 ∷ 0 ∷ 0 ∷ 0 ∷ 0 ∷ 2 ∷ 1 ∷ []

-- row 0 shares; and row 1 shares two bytes with a first key of one
abbrev first_shares : Bytes
first_shares = sharing 1 ++ (bytes_a ++ two_rows 13)

abbrev shares_more : Bytes
shares_more = bytes_a ++ (sharing 2 ++ two_rows 18)

-- a byte that belongs to no row, between the two; and after the last
abbrev gap : Bytes
gap = bytes_a ++ (9 ∷ (bytes_aB ++ two_rows 19))

abbrev gap_at_end : Bytes
gap_at_end = bytes_a ++ (bytes_aB ++ (9 ∷ two_rows 18))

-- row 0's value has a byte more than stands there; and its key ends after row 1's offset
abbrev overrun : Bytes
overrun = take 17 bytes_a ++ (1 ∷ (bytes_aB ++ two_rows 18))

abbrev key_overrun : Bytes
key_overrun = bytes_a ++ (bytes_aB ++ two_rows 4)

-- one key twice, with these numbers
abbrev twice : ℕ → ℕ → List Row
twice x y = row_with key_a [] x ∷ row_with key_a [] y ∷ []

-- a tombstone with both times, for which two bytes are offered; and as it is read back
abbrev gone_with : Bytes → Row
gone_with val = row_of key_aB (fields_is tombstone val 2 (At (pos 7)) (At (negsuc 0)))

abbrev bytes_gone : Bytes
bytes_gone = 0 ∷ 1 ∷ 0 ∷ 1 ∷ 98 ∷ 0 ∷ 0 ∷ 0 ∷ 0 ∷ 0 ∷ 0 ∷ 0 ∷ 2 ∷ 7 ∷ 0 ∷ 0 ∷ 0 ∷ 0 ∷ 0 ∷ 0 ∷ 0 ∷ 7 ∷ 255 ∷ 255 ∷ 255 ∷ 255 ∷ 255 ∷ 255 ∷ 255 ∷ 255 ∷ []

abbrev block_gone : Bytes
block_gone = bytes_a ++ (bytes_gone ++ two_rows 18)

abbrev pub cases : List Case
cases =
    -- three rows, of keys a, ab and b, start at 0, 18 and 37: the block as the layout has it and as it is built, in which the check finds three rows
    lays three block3 (0 ∷ 18 ∷ 37 ∷ [])
    ∷ builds 4096 three (0 ∷ 0 ∷ 0 ∷ []) block3
    ∷ checks block3 (ok 3)
    -- walked both ways, its rows have the numbers 0, 1 and 2; "done" is said again and again
    ∷ travels block3 ascending (gave 0 row_a 1 ∷ gave 1 row_aB 2 ∷ gave 2 row_b 3 ∷ over 3 ∷ over 3 ∷ [])
    ∷ travels block3 descending (gave 2 row_b 1 ∷ gave 1 row_aB 2 ∷ gave 0 row_a 3 ∷ over 3 ∷ over 3 ∷ [])
    -- sought upwards, two keys read each time: "ab" is there, "aa" lies between a and ab, "c" is above all, and the empty target is below all
    ∷ seeks block3 ascending key_aB 1 2 (gave 1 row_aB 2)
    ∷ seeks block3 ascending (97 ∷ 97 ∷ []) 1 2 (gave 1 row_aB 2)
    ∷ seeks block3 ascending (99 ∷ []) 3 2 (over 3)
    ∷ seeks block3 ascending [] 0 2 (gave 0 row_a 1)
    -- and downwards
    ∷ seeks block3 descending key_aB 1 2 (gave 1 row_aB 2)
    ∷ seeks block3 descending (97 ∷ 97 ∷ []) 2 2 (gave 0 row_a 3)
    ∷ seeks block3 descending (99 ∷ []) 0 2 (gave 2 row_b 1)
    ∷ seeks block3 descending [] 3 2 (over 3)
    -- block size: after 18 bytes of one row, an offset and the count a row of 19 needs 41, and is taken at 41; its own offset is not counted, so the block has 43. At 40 it answers 4
    ∷ builds 41 (row_a ∷ row_aB ∷ []) (0 ∷ 0 ∷ []) block2
    ∷ builds 40 (row_a ∷ row_aB ∷ []) (0 ∷ 4 ∷ []) (bytes_a ++ (0 ∷ 0 ∷ 0 ∷ 1 ∷ []))
    -- the first row is taken whatever the size; no row, no block
    ∷ builds 0 (row_a ∷ row_aB ∷ []) (0 ∷ 4 ∷ []) (bytes_a ++ (0 ∷ 0 ∷ 0 ∷ 1 ∷ []))
    ∷ builds 0 [] [] []
    -- a row that starts at 65,535 is taken, one at 65,536 answers 5
    ∷ starts_at 65535 0
    ∷ starts_at 65536 5
    -- a first row that shares: 13 at opening, both ways, and of all that reads row 0's key, a step to another row too
    ∷ opens first_shares ascending 13
    ∷ opens first_shares descending 13
    ∷ checks first_shares (refuse 13)
    ∷ steps first_shares (cursor_is ascending 1) (no 13 ∷ [])
    ∷ steps first_shares (cursor_is descending 0) (no 13 ∷ [])
    ∷ seeks_not first_shares ascending key_a 13
    -- a share longer than the first key: 13 once that row is met
    ∷ checks shares_more (refuse 13)
    ∷ travels shares_more ascending (gave 0 row_a 1 ∷ no 13 ∷ [])
    ∷ travels shares_more descending (no 13 ∷ [])
    ∷ seeks_not shares_more ascending key_a 13
    -- a gap between rows: 20 of the check and of a step to the row before it; a seek, which reads keys alone, does not see it
    ∷ checks gap (refuse 20)
    ∷ travels gap ascending (no 20 ∷ [])
    ∷ travels gap descending (gave 1 row_aB 1 ∷ no 20 ∷ [])
    ∷ seeks gap ascending key_a 0 2 (no 20)
    ∷ seeks gap ascending key_aB 1 2 (gave 1 row_aB 2)
    ∷ seeks gap ascending key_b 2 1 (over 2)
    -- and one after the last row
    ∷ checks gap_at_end (refuse 20)
    ∷ travels gap_at_end ascending (gave 0 row_a 1 ∷ no 20 ∷ [])
    ∷ seeks gap_at_end descending key_b 0 1 (no 20)
    -- an overrun: 16 of the check and of a step, and of a seek only where the key itself runs over; then of opening too
    ∷ checks overrun (refuse 16)
    ∷ travels overrun ascending (no 16 ∷ [])
    ∷ seeks overrun ascending key_aB 1 2 (gave 1 row_aB 2)
    ∷ opens key_overrun ascending 16
    ∷ seeks_not key_overrun descending key_aB 16
    -- equal keys: numbers that rise, or are equal, answer 17 of the check; steps and seeks take them as they are
    ∷ checks (block_bytes (twice 2 1)) (ok 2)
    ∷ checks (block_bytes (twice 1 2)) (refuse 17)
    ∷ checks (block_bytes (twice 2 2)) (refuse 17)
    ∷ travels (block_bytes (twice 1 2)) ascending (gave 0 (row_with key_a [] 1) 1 ∷ gave 1 (row_with key_a [] 2) 2 ∷ over 2 ∷ [])
    ∷ seeks (block_bytes (twice 1 2)) descending key_a 0 1 (gave 1 (row_with key_a [] 2) 1)
    -- a cursor that has passed more rows than there are: 18 of a step; `is_empty` is true of it, as of one that has passed all, and false before
    ∷ steps block3 (cursor_is ascending 4) (no 18 ∷ [])
    ∷ steps block3 (cursor_is descending 4) (no 18 ∷ [])
    ∷ empties block3 (cursor_is ascending 4) true
    ∷ empties block3 (cursor_is descending 3) true
    ∷ empties block3 (cursor_is descending 2) false
    -- "done" leaves the cursor
    ∷ rests block3 (cursor_is ascending 3)
    ∷ rests block3 (cursor_is descending 3)
    -- a tombstone's both times come back through a block; the bytes that are offered for it do not
    ∷ builds 4096 (row_a ∷ gone_with (120 ∷ 121 ∷ []) ∷ []) (0 ∷ 0 ∷ []) block_gone
    ∷ checks block_gone (ok 2)
    ∷ travels block_gone ascending (gave 0 row_a 1 ∷ gave 1 (gone_with []) 2 ∷ over 2 ∷ [])
    ∷ travels block_gone descending (gave 1 (gone_with []) 1 ∷ gave 0 row_a 2 ∷ over 2 ∷ [])
    ∷ []

pub cases-hold : AllHold cases
unfolding big unbig bits unbits fixed_at splice below common may_follow time_bytes key_length_tests length_tests head_tests flags_at time_at times_at offset_bytes trailer short_at trailer_of rising_from all_offsets region_of middle search_in search row_bytes head_at body_at value_at held_at row_at read_row read_key laid_row rows_from offsets_from block_rows offsets block_bytes state_tests fits would_fit add build row_numbered check_row check_from check key_numbered step_to next open_block is_empty key_passes search_rows seek answers offered finished seen
cases-hold =
    ((refl, refl), ((refl, refl), (refl, ((refl, refl), ((refl, refl), ((refl, refl), ((refl, refl), ((refl, refl), ((refl, refl), ((refl, refl), ((refl, refl), ((refl, refl), ((refl, refl), ((refl, refl), ((refl, refl), ((refl, refl), ((refl, refl), (refl, (refl, (refl, (refl, (refl, (refl, (refl, (refl, (refl, ((refl, refl), ((refl, refl), (refl, (refl, ((refl, refl), ((refl, refl), ((refl, refl), ((refl, refl), ((refl, refl), (refl, ((refl, refl), ((refl, refl), (refl, ((refl, refl), ((refl, refl), (refl, (refl, (refl, (refl, (refl, ((refl, refl), ((refl, refl), (refl, (refl, (refl, (refl, (refl, (refl, (refl, ((refl, refl), (refl, ((refl, refl), ((refl, refl), tt)))))))))))))))))))))))))))))))))))))))))))))))))))))))))))
