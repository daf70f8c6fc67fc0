-- "Rows from the desk", cases 1 to 10, and those that came with requests, in a single list; `cases-hold` is the one fact over it, by computation against the definitions.
use Rattle.std.specs.Prelude.{ℕ, zero, suc, ◌-◌, ◌≡◌, refl, Bool, true, false, cond, List, [], ◌∷◌, ◌++◌, eqb, length, take, replicate}
use Rattle.std.specs.Int.Count.{count_leading_zeros}
use Rattle.layout.specs.Res.{Res, ok, refuse, bind}
use Rattle.layout.specs.Limits.{max_key}
use Rattle.layout.specs.Varint.{varint, varint_in, varint_length, Num, num, read_varint, read_varint_in}
use Rattle.layout.specs.Fixed.{big, unbig, bits, unbits}
use Rattle.layout.specs.Place.{varint_at, fixed_at, splice}
use Rattle.layout.specs.Key.{Key, below, common, may_follow}
use Rattle.layout.specs.Row.{value, Absent, Row, present, time_bytes, row_bytes, row_size, size_alone, key_length_tests, length_tests, encode_row, restore_key}
use Rattle.layout.specs.RowRead.{decode_row, lengths_at, head_tests, head_at, flags_at, body_tests, body_at, time_at, times_at, row_at, read_row, read_key, key_length}
use Rattle.layout.specs.Block.{is_restart, share_of, laid_row, rows_from, offsets_from, block_rows, offsets, offset_bytes, trailer, block_bytes}
use Rattle.layout.specs.Trailer.{short_at, trailer_of, rising_from, all_offsets, region_of}
use Rattle.layout.specs.Builder.{Builder, fresh, state_tests, fits, would_fit, add, state_after_of, data_after_of, places_after_of, build, block_after_of}
use Rattle.layout.specs.Number.{ended_from, ended_by, number_at}
use Rattle.layout.specs.Cursor.{Direction, ascending, descending, Cursor, kept_cursor, cursor_is, opened_up, Answer, found, done, Step, row_ending_at, step_up, step_back_in, step_down, next, open_along, open_block}
use Rattle.layout.specs.Check.{check, check_from, check_row}
use Rattle.layout.specs.Seek.{middle, search_in, search, restart_key, restart_below, search_restarts, walk_region, walk_up, seek_up, last_equal, start_down, last_at_or_below, walk_down, seek_down, seek}

-- ---- a builder that is offered rows, over buffers that hold something before

pub record Run : Type 0 where
  pub builder : Builder
  pub bytes : List ℕ
  pub places : List ℕ

abbrev pub started : ℕ → ℕ → Run
started size interval = record { builder = fresh size interval; bytes = replicate 96 255; places = replicate 4 255 }

abbrev pub answer_to : Run → Row → Res Builder
answer_to u r = add u.builder (length u.bytes) (length u.places) r.key r.fields

abbrev pub run_after : Res Builder → Run → Row → Run
run_after a u r =
    record {
      builder = state_after_of a u.builder;
      bytes = data_after_of a u.builder r.key r.fields u.bytes;
      places = places_after_of a u.builder u.places;
    }

-- 0 for a row that is taken, else the refusal's number
abbrev pub number_of : {A : Type 0} → Res A → ℕ
number_of (ok a) = 0
number_of (refuse n) = n

unfoldable pub answers : Run → List Row → List ℕ
answers u [] = []
answers u (r ∷ rs) = number_of (answer_to u r) ∷ answers (run_after (answer_to u r) u r) rs

unfoldable pub offered : Run → List Row → Run
offered u [] = u
offered u (r ∷ rs) = offered (run_after (answer_to u r) u r) rs

-- the block's length is answered, and the block stands at the buffer's start
abbrev pub block_in : Res ℕ → Run → List ℕ
block_in (ok n) u = take n (block_after_of (ok n) u.builder u.bytes u.places)
block_in (refuse n) u = []

unfoldable pub finished : Run → List ℕ
finished u = block_in (build u.builder (length u.bytes) (length u.places)) u

unfoldable pub block_for : ℕ → ℕ → List Row → List ℕ
block_for size interval rows = finished (offered (started size interval) rows)

-- ---- the number of the row that is found

-- where the rows start, by steps from an opened cursor
abbrev pub follow : Answer → List ℕ → List ℕ
follow (found region number r key) more = r.start ∷ more
follow done more = []

abbrev pub stepped : Res Step → (Cursor → List ℕ) → List ℕ
stepped (ok s) k = follow s.answer (k s.cursor)
stepped (refuse n) k = []

unfoldable pub row_starts : ℕ → Cursor → List ℕ → List ℕ
row_starts zero c b = []
row_starts (suc n) c b = stepped (next c b max_key) (λ c'. row_starts n c' b)

unfoldable pub number_in : List ℕ → ℕ → ℕ
number_in [] at = 0
number_in (s ∷ ss) at = cond (eqb s at) 0 (suc (number_in ss at))

pub data Landed : Type 0 where
  row : ℕ → ℕ → Landed
  none : ℕ → Landed

-- "done" by the seek's own mark, else the row after it; and how many restart keys the search read. A seek that is not marked is never followed by "done"
abbrev pub landed_by : List ℕ → ℕ → Bool → Answer → Res Landed
landed_by starts reads true answer = ok (none reads)
landed_by starts reads false (found region number r key) = ok (row (number_in starts r.start) reads)
landed_by starts reads false done = refuse 0

unfoldable pub landed : Direction → List ℕ → Key → Res Landed
landed d b target =
    bind (trailer_of b) λ t.
    bind (seek d b target) λ s.
    bind (next s.cursor b max_key) λ a.
    landed_by (row_starts 9 opened_up b) s.reads s.cursor.done a.answer

-- ---- which row is this

-- where a cursor stands: its region, its position, and how many rows of the region end at or before that
pub record Stand : Type 0 where
  pub region : ℕ
  pub at : ℕ
  pub number : ℕ

abbrev pub stand : ℕ → ℕ → ℕ → Stand
stand region at number = record { region = region; at = at; number = number }

abbrev pub stand_of : Cursor → Stand
stand_of c = stand c.region c.at c.number

-- what a step tells: a row's region and its number there, or "done", and where the cursor stands then; or its refusal
pub data Seen : Type 0 where
  gave : ℕ → ℕ → Stand → Seen
  over : Stand → Seen
  no : ℕ → Seen

abbrev pub seen_as : Answer → Stand → Seen
seen_as (found region number r key) s = gave region number s
seen_as done s = over s

abbrev pub seen_by : Res Step → (Cursor → List Seen) → List Seen
seen_by (ok s) k = seen_as s.answer (stand_of s.cursor) ∷ k s.cursor
seen_by (refuse n) k = no n ∷ []

unfoldable pub seen : ℕ → Cursor → List ℕ → List Seen
seen zero c b = []
seen (suc n) c b = seen_by (next c b max_key) (λ c'. seen n c' b)

-- an opened cursor, and a walk with it
pub record Travel : Type 0 where
  pub first : Stand
  pub told : List Seen

abbrev pub travel : Stand → List Seen → Travel
travel first told = record { first = first; told = told }

abbrev pub travelled : ℕ → List ℕ → Cursor → Res Travel
travelled n b c = ok (travel (stand_of c) (seen n c b))

abbrev pub row_with : Key → List ℕ → ℕ → Row
row_with key val seq = record { key = key; fields = record { kind = value; val = val; seq = seq; expire = Absent; create = Absent } }

-- ---- a key at the edge

-- a block of one row, as it is laid: no limit is asked
abbrev pub laid_alone : Row → List ℕ
laid_alone r = block_bytes 16 (r ∷ [])

-- what each call that takes or reads the row's key answers, 0 for good: its size, encoding, decoding, restoring, the fit question, adding, and then building; the check of its block, a
-- step and a seek both ways; and a step of a cursor and a question to a builder that carry a key so long
unfoldable pub edge_answers : Row → List ℕ
edge_answers r =
    number_of (size_alone 0 (length r.key) value 0 false false)
    ∷ number_of (encode_row 0 0 r.key r.fields 8192)
    ∷ number_of (decode_row (row_bytes 0 r.key r.fields) 0)
    ∷ number_of (restore_key [] 0 r.key 8192)
    ∷ number_of (would_fit (fresh 8192 16) 8192 1 r.key r.fields)
    ∷ number_of (add (fresh 8192 16) 8192 1 r.key r.fields)
    ∷ number_of (build (state_after_of (add (fresh 8192 16) 8192 1 r.key r.fields) (fresh 8192 16)) 8192 1)
    ∷ number_of (check (laid_alone r))
    ∷ number_of (next (cursor_is ascending 0 0 0 [] false) (laid_alone r) 8192)
    ∷ number_of (next (cursor_is descending 0 (length (row_bytes 0 r.key r.fields)) 1 [] false) (laid_alone r) 8192)
    ∷ number_of (seek ascending (laid_alone r) r.key)
    ∷ number_of (seek descending (laid_alone r) r.key)
    ∷ number_of (next (kept_cursor ascending 0 0 0 (length r.key) [] true) (laid_alone r) 0)
    ∷ number_of (state_tests (record { block_size = 8192; restart_interval = 16; used = 12; restarts = 1; counter = 1; last_key_len = length r.key; last_key_of = r.key }) 8192 1)
    ∷ []

-- ---- the cases

pub data Case : Type 0 where
  -- a row alone at a restart: its bytes, and its size from lengths alone
  lays : Row → List ℕ → ℕ → Case
  -- block size, interval and the rows offered: the answer to each, and the finished block
  builds : ℕ → ℕ → List Row → List ℕ → List ℕ → Case
  -- a number's varint
  spells : ℕ → List ℕ → Case
  -- the varint that bytes spell
  reads : List ℕ → Res Num → Case
  -- a single row's bytes are refused
  refuses : List ℕ → ℕ → Case
  -- its key alone is refused, not at a restart
  refuses_key : List ℕ → ℕ → Case
  -- a finished block of rows: what the check answers
  checks : ℕ → List Row → Res ℕ → Case
  -- a seek in a block of rows with these keys
  seeks : ℕ → List Row → Direction → Key → Landed → Case
  -- a key of so many bytes: the answer of each call
  edges : ℕ → List ℕ → Case
  -- a row after a key, not at a restart: its bytes, and the length of its key as it is read back
  shares : Key → Row → List ℕ → ℕ → Case
  -- a block opened: where the cursor stands, and what each step tells; or the refusal
  travels : List ℕ → Direction → Res Travel → Case
  -- a seek in a block: where it leaves the cursor
  stands : List ℕ → Direction → Key → Stand → Case
  -- any cursor on a block: what each step tells
  steps : List ℕ → Cursor → List Seen → Case

abbrev pub Holds : Case → Type 0
Holds (lays r bytes n) =
    (laid_row true [] r.key r.fields ≡ bytes)
    × (size_alone 0 (length r.key) r.fields.kind (length r.fields.val) (present r.fields.expire) (present r.fields.create) ≡ ok n)
    × (length bytes ≡ n)
Holds (builds size interval rows said block) = (answers (started size interval) rows ≡ said) × (block_for size interval rows ≡ block)
Holds (spells v bytes) = (varint v ≡ bytes) × (read_varint bytes ≡ ok (num v (length bytes)))
Holds (reads bytes answer) = read_varint bytes ≡ answer
Holds (refuses bytes n) = decode_row bytes 0 ≡ refuse n
Holds (refuses_key bytes n) = read_key bytes 0 (length bytes) 0 false ≡ refuse n
Holds (checks interval rows answer) = check (block_for 4096 interval rows) ≡ answer
Holds (seeks interval rows d target answer) = landed d (block_for 4096 interval rows) target ≡ ok answer
Holds (edges n said) = edge_answers (row_with (replicate n 107) [] 1) ≡ said
Holds (shares before r bytes n) =
    (laid_row false before r.key r.fields ≡ bytes) × (bind (read_row bytes 0 (length bytes) (length before) false) (λ q. ok (key_length q)) ≡ ok n)
Holds (travels b d (ok t)) = bind (open_block b d) (travelled (length t.told) b) ≡ ok t
Holds (travels b d (refuse n)) = open_block b d ≡ refuse n
Holds (stands b d target s) = bind (seek d b target) (λ q. ok (stand_of q.cursor)) ≡ ok s
Holds (steps b c told) = seen (length told) c b ≡ told

abbrev pub AllHold : List Case → Type 0
AllHold [] = Unit {0}
AllHold (c ∷ cs) = Holds c × AllHold cs

-- the letters of the cases
abbrev key_a : Key
key_a = 97 ∷ []

abbrev key_aB : Key
key_aB = 97 ∷ 98 ∷ []

abbrev row_a : Row
row_a = row_with key_a [] 1

abbrev row_aB : Row
row_aB = row_with key_aB (120 ∷ []) 2

abbrev bytes_a : List ℕ
bytes_a = 0 ∷ 1 ∷ 0 ∷ 97 ∷ 0 ∷ 0 ∷ 0 ∷ 0 ∷ 0 ∷ 0 ∷ 0 ∷ 1 ∷ 0 ∷ []

abbrev bytes_aB : List ℕ
bytes_aB = 1 ∷ 1 ∷ 1 ∷ 98 ∷ 120 ∷ 0 ∷ 0 ∷ 0 ∷ 0 ∷ 0 ∷ 0 ∷ 0 ∷ 2 ∷ 0 ∷ []

abbrev bytes_aBAlone : List ℕ
bytes_aBAlone = 0 ∷ 2 ∷ 1 ∷ 97 ∷ 98 ∷ 120 ∷ 0 ∷ 0 ∷ 0 ∷ 0 ∷ 0 ∷ 0 ∷ 0 ∷ 2 ∷ 0 ∷ []

-- keys a, b, b, b, c, with these numbers
abbrev pub numbered8 : ℕ → ℕ → ℕ → ℕ → ℕ → List Row
numbered8 v w x y z = row_with (97 ∷ []) [] v ∷ row_with (98 ∷ []) [] w ∷ row_with (98 ∷ []) [] x ∷ row_with (98 ∷ []) [] y ∷ row_with (99 ∷ []) [] z ∷ []

-- the numbers fall
abbrev pub rows8 : List Row
rows8 = numbered8 5 4 3 2 1

-- one key twice, with these numbers
abbrev twice : ℕ → ℕ → List Row
twice x y = row_with key_a [] x ∷ row_with key_a [] y ∷ []

abbrev largest : ℕ
largest = 18446744073709551615

-- case 8's block, and its rows in one region
abbrev block8 : List ℕ
block8 = block_for 4096 2 rows8

abbrev region8 : List ℕ
region8 = block_for 4096 16 rows8

-- case 2's block with flags in its last row that there are not
abbrev damaged2 : List ℕ
damaged2 = bytes_a ++ (take 13 bytes_aB ++ (16 ∷ 0 ∷ 0 ∷ 0 ∷ 1 ∷ []))

abbrev pub cases : List Case
cases =
    -- 1
    lays row_a bytes_a 13
    -- 2
    ∷ builds 4096 16 (row_a ∷ row_aB ∷ []) (0 ∷ 0 ∷ []) (bytes_a ++ (bytes_aB ++ (0 ∷ 0 ∷ 0 ∷ 1 ∷ [])))
    -- 3
    ∷ builds 31 16 (row_a ∷ row_aB ∷ []) (0 ∷ 0 ∷ []) (bytes_a ++ (bytes_aB ++ (0 ∷ 0 ∷ 0 ∷ 1 ∷ [])))
    ∷ builds 30 16 (row_a ∷ row_aB ∷ []) (0 ∷ 4 ∷ []) (bytes_a ++ (0 ∷ 0 ∷ 0 ∷ 1 ∷ []))
    -- 4
    ∷ lays row_aB bytes_aBAlone 15
    ∷ builds 4096 1 (row_a ∷ row_aB ∷ []) (0 ∷ 0 ∷ []) (bytes_a ++ (bytes_aBAlone ++ (0 ∷ 0 ∷ 0 ∷ 13 ∷ 0 ∷ 2 ∷ [])))
    -- 5
    ∷ spells 127 (127 ∷ [])
    ∷ spells 128 (128 ∷ 1 ∷ [])
    ∷ spells 16383 (255 ∷ 127 ∷ [])
    ∷ spells 16384 (128 ∷ 128 ∷ 1 ∷ [])
    -- 6
    ∷ reads (255 ∷ 255 ∷ 255 ∷ 255 ∷ 15 ∷ []) (ok (num 4294967295 5))
    ∷ reads (255 ∷ 255 ∷ 255 ∷ 255 ∷ 16 ∷ []) (refuse 10)
    -- 7
    ∷ refuses (0 ∷ 1 ∷ 0 ∷ 97 ∷ 0 ∷ 0 ∷ 0 ∷ 0 ∷ 0 ∷ 0 ∷ 0 ∷ 1 ∷ 9 ∷ []) 12
    ∷ refuses (0 ∷ 1 ∷ 0 ∷ 97 ∷ 0 ∷ 0 ∷ 0 ∷ 0 ∷ 0 ∷ 0 ∷ 0 ∷ 1 ∷ 16 ∷ []) 11
    -- 8
    ∷ checks 2 rows8 (ok 5)
    ∷ seeks 2 rows8 ascending (98 ∷ []) (row 1 2)
    ∷ seeks 2 rows8 descending (98 ∷ []) (row 3 2)
    -- 9
    ∷ seeks 2 rows8 ascending (98 ∷ 98 ∷ []) (row 4 2)
    ∷ seeks 2 rows8 descending (98 ∷ 98 ∷ []) (row 3 2)
    -- 10
    ∷ seeks 2 rows8 ascending (100 ∷ []) (none 2)
    ∷ seeks 2 rows8 descending [] (none 2)
    ∷ seeks 2 rows8 ascending [] (row 0 2)
    -- one spelling for a number
    ∷ reads (0 ∷ []) (ok (num 0 1))
    ∷ reads (128 ∷ 0 ∷ []) (refuse 10)
    ∷ reads (128 ∷ 128 ∷ 128 ∷ 128 ∷ 0 ∷ []) (refuse 10)
    ∷ reads (255 ∷ 128 ∷ 0 ∷ []) (refuse 10)
    ∷ reads (255 ∷ 255 ∷ 255 ∷ 255 ∷ 0 ∷ []) (refuse 10)
    ∷ reads (128 ∷ []) (refuse 9)
    ∷ reads (128 ∷ 128 ∷ []) (refuse 9)
    -- a padded value length in a key-only read, and a padded share that is too long
    ∷ refuses_key (0 ∷ 1 ∷ 128 ∷ 0 ∷ 97 ∷ []) 10
    ∷ refuses (133 ∷ 0 ∷ 1 ∷ 0 ∷ 97 ∷ 0 ∷ 0 ∷ 0 ∷ 0 ∷ 0 ∷ 0 ∷ 0 ∷ 1 ∷ 0 ∷ []) 10
    -- newest first among equals. Case 8's keys with numbers that rise, and that are equal; then the two rows at fault on both sides of a restart, and inside a region
    ∷ checks 2 (numbered8 1 2 3 4 5) (refuse 17)
    ∷ checks 2 (numbered8 7 7 7 7 7) (refuse 17)
    ∷ checks 2 (numbered8 5 3 4 2 1) (refuse 17)
    ∷ checks 2 (numbered8 5 4 4 2 1) (refuse 17)
    ∷ checks 2 (numbered8 5 4 2 3 1) (refuse 17)
    ∷ checks 2 (numbered8 5 4 3 3 1) (refuse 17)
    -- of different keys no number is asked: they may rise, and be equal; and a smaller key is refused with a smaller number too
    ∷ checks 2 (numbered8 1 4 3 2 5) (ok 5)
    ∷ checks 2 (numbered8 4 4 3 2 2) (ok 5)
    ∷ checks 16 (row_aB ∷ row_a ∷ []) (refuse 17)
    -- the largest number, and 0
    ∷ checks 16 (twice largest 0) (ok 2)
    ∷ checks 16 (twice 0 largest) (refuse 17)
    ∷ checks 1 (twice largest 0) (ok 2)
    ∷ checks 1 (twice 0 largest) (refuse 17)
    ∷ checks 1 (twice largest largest) (refuse 17)
    -- any row may be the first: of the smallest key, and of number 0
    ∷ checks 16 (row_with (0 ∷ []) [] 0 ∷ []) (ok 1)
    -- the longest key
    ∷ edges max_key (replicate 14 0)
    -- one byte more: nothing was added, so nothing is built
    ∷ edges (suc max_key) (replicate 6 2 ++ (7 ∷ (replicate 5 2 ++ (18 ∷ 18 ∷ []))))
    -- a row that shares all of the longest key but its last byte
    ∷ shares (replicate (max_key - 1) 107 ++ (97 ∷ [])) (row_with (replicate (max_key - 1) 107 ++ (98 ∷ [])) [] 2) (255 ∷ 31 ∷ 1 ∷ 0 ∷ 98 ∷ 0 ∷ 0 ∷ 0 ∷ 0 ∷ 0 ∷ 0 ∷ 0 ∷ 2 ∷ 0 ∷ []) max_key
    -- which row is this: case 8's block walked both ways, with the hand-over from region to region, and "done", which leaves the number
    ∷ travels block8 ascending (ok (travel (stand 0 0 0) (gave 0 0 (stand 0 13 1) ∷ gave 0 1 (stand 1 26 0) ∷ gave 1 0 (stand 1 39 1) ∷ gave 1 1 (stand 2 51 0) ∷ gave 2 0 (stand 2 64 1) ∷ over (stand 2 64 1) ∷ [])))
    ∷ travels block8 descending (ok (travel (stand 2 64 1) (gave 2 0 (stand 2 51 0) ∷ gave 1 1 (stand 1 39 1) ∷ gave 1 0 (stand 1 26 0) ∷ gave 0 1 (stand 0 13 1) ∷ gave 0 0 (stand 0 0 0) ∷ over (stand 0 0 0) ∷ [])))
    -- and sought in
    ∷ stands block8 ascending [] (stand 0 0 0)
    ∷ stands block8 ascending (98 ∷ []) (stand 0 13 1)
    ∷ stands block8 ascending (98 ∷ 98 ∷ []) (stand 2 51 0)
    ∷ stands block8 ascending (100 ∷ []) (stand 2 64 1)
    ∷ stands block8 descending [] (stand 0 0 0)
    ∷ stands block8 descending (98 ∷ []) (stand 1 51 2)
    ∷ stands block8 descending (98 ∷ 98 ∷ []) (stand 1 51 2)
    ∷ stands block8 descending (100 ∷ []) (stand 2 64 1)
    -- a damaged last region is met by opening backwards
    ∷ travels damaged2 ascending (ok (travel (stand 0 0 0) []))
    ∷ travels damaged2 descending (refuse 11)
    -- wrong numbers, ascending: 0 past the start, at the data's end too, and one above the twelfth, at the start too; a wrong one that can be is handed on
    ∷ steps region8 (cursor_is ascending 0 38 0 (98 ∷ []) false) (no 18 ∷ [])
    ∷ steps region8 (cursor_is ascending 0 38 4 (98 ∷ []) false) (no 18 ∷ [])
    ∷ steps region8 (cursor_is ascending 0 38 1 (98 ∷ []) false) (gave 0 1 (stand 0 50 2) ∷ gave 0 2 (stand 0 63 3) ∷ over (stand 0 63 3) ∷ [])
    ∷ steps region8 (cursor_is ascending 0 0 1 [] false) (no 18 ∷ [])
    ∷ steps block8 (cursor_is ascending 2 64 0 [] false) (no 18 ∷ [])
    -- descending: any but the true one, after the rows' own refusals
    ∷ steps region8 (cursor_is descending 0 38 2 [] false) (no 18 ∷ [])
    ∷ steps region8 (cursor_is descending 0 38 4 [] false) (no 18 ∷ [])
    ∷ steps region8 (cursor_is descending 0 38 3 [] false) (gave 0 2 (stand 0 26 2) ∷ [])
    ∷ steps damaged2 (cursor_is descending 0 27 9 [] false) (no 11 ∷ [])
    -- at a region's start, before the region before is used, and before "done"
    ∷ steps block8 (cursor_is descending 1 26 1 [] false) (no 18 ∷ [])
    ∷ steps block8 (cursor_is descending 1 26 0 [] false) (gave 0 1 (stand 0 13 1) ∷ [])
    ∷ steps block8 (cursor_is descending 0 0 1 [] false) (no 18 ∷ [])
    -- of a marked cursor it is not tested
    ∷ steps block8 (cursor_is ascending 0 13 9 [] true) (over (stand 0 13 9) ∷ [])
    ∷ steps block8 (cursor_is descending 1 26 9 [] true) (over (stand 1 26 9) ∷ [])
    ∷ []

pub cases-hold : AllHold cases
unfolding ended_from ended_by number_at open_along open_block seen count_leading_zeros answers offered finished block_for row_starts number_in landed varint varint_in varint_length read_varint read_varint_in big unbig bits unbits varint_at fixed_at splice below common time_bytes row_bytes row_size size_alone key_length_tests length_tests decode_row lengths_at head_tests head_at flags_at body_tests body_at time_at times_at row_at read_row read_key is_restart share_of laid_row offset_bytes trailer short_at trailer_of rising_from all_offsets region_of state_tests fits would_fit add build row_ending_at step_up step_back_in step_down next middle search_in search restart_key restart_below search_restarts walk_region walk_up seek_up last_equal start_down last_at_or_below walk_down seek_down seek edge_answers encode_row restore_key check check_from check_row may_follow block_bytes block_rows offsets rows_from offsets_from
cases-hold =
    ((refl, refl, refl), ((refl, refl), ((refl, refl), ((refl, refl), ((refl, refl, refl), ((refl, refl), ((refl, refl), ((refl, refl), ((refl, refl), ((refl, refl), (refl, (refl, (refl, (refl, (refl, (refl, (refl, (refl, (refl, (refl, (refl, (refl, (refl, (refl, (refl, (refl, (refl, (refl, (refl, (refl, (refl, (refl, (refl, (refl, (refl, (refl, (refl, (refl, (refl, (refl, (refl, (refl, (refl, (refl, (refl, (refl, (refl, (refl, ((refl, refl), (refl, (refl, (refl, (refl, (refl, (refl, (refl, (refl, (refl, (refl, (refl, (refl, (refl, (refl, (refl, (refl, (refl, (refl, (refl, (refl, (refl, (refl, (refl, (refl, (refl, (refl, tt)))))))))))))))))))))))))))))))))))))))))))))))))))))))))))))))))))))))))))
