-- Demand 2, for the earlier format. Inside the limits, on blocks that the check accepts: a row decodes to what was encoded; an ascending seek lands on the first row whose key is
-- at least the target, a descending seek on the last whose key is at most it, or says that none is left. And what a seek costs.
--
-- What the statements say is in Rows, of runs of calls and of steps in Runs; every call in them is a definition that a contract names. The rows of an accepted block (`Rows`) are
-- named by their places. A key buffer is asked that is no shorter than any key (`RoomFor`): one as long as the key limit is (`room-enough`). The proofs are in RowProof, Proof2
-- and Proof3.
use Rattle.std.specs.Prelude.{ℕ, ◌<◌, ◌≤◌, ◌≡◌, List, [], ◌++◌, length, get_or}
use Rattle.std.proofs.Common.{ap, sym, ◌∙◌, arith}
use Rattle.layout.specs.Res.{ok, refuse}
use Rattle.layout.specs.Limits.{max_key, max_restarts}
use Rattle.layout.specs.Varint.{significant_bits}
use Rattle.layout.specs.Key.{Key, no_rank, Rising}
use Rattle.layout.specs.Row.{Fields, Row, Typed}
use Rattle.layout.specs.Trailer.{Trailer, trailer_of}
use Rattle.layout.specs.Cursor.{Direction, ascending, descending, Keyed}
use Rattle.layout_v1.specs.Row.{encode_row}
use Rattle.layout_v1.specs.RowRead.{decode_row}
use Rattle.layout_v1.specs.Check.{check}
use Rattle.layout_v1.specs.Cursor.{Cursor, found, step_is, next}
use Rattle.layout_v1.specs.Seek.{Sought, sought_is, seek}
use Rattle.demands.specs.Lends.{Call}
use Rattle.demands.specs.Reads.{keys_of}
use Rattle.demands.specs.Rows.{DecodesTo, offered_ranks, PartsBelow, PartsAbove, FoundFirstOf}
use Rattle.demands.specs.Runs.{RoomFor, backwards}
use Rattle.demands.specs.Proof2.{first-splits, last-splits}
use Rattle.demands.specs.DoubleDebit.{rank_at, rows-no-double}
use Rattle.demands.specs.CostProof.{count_small}
use Rattle.demands_v1.specs.Reads.{Accepts}
use Rattle.demands_v1.specs.Runs.{Lending, Ran, Finishes, GivesFirst}
use Rattle.demands_v1.specs.Rows.{Rows, opened, BothWays, SoughtUp, SoughtDown, BetweenNumbers, Given}
use Rattle.demands_v1.specs.RowProof.{encode-tells, decodes-back}
use Rattle.demands_v1.specs.Proof3.{ran-laid, laid-accepted, accepted-laid, laid-verdict, both_ways}
use Rattle.demands_v1.specs.Proof2.{accepted-rows, rows-room, rows_few, sought-up, sought-down, between-numbers, retry_present, retry_absent, reads-at-most, seek-answers}
use Rattle.layout.proofs.Laws.Res.{ok-inj}
use Rattle.demands.specs.Laws.Accept.{verdict-falling}
use Rattle.demands_v1.specs.Laws.Accept.{check_accepts, accepts_check}
use Rattle.demands_v1.specs.Laws.Walk.{walks-first}

-- A row that was encoded decodes, whatever bytes follow, to what was encoded, both times of a tombstone too, and ends where it ended; its full key is the shared bytes of the
-- first key, then the suffix.
pub decode-encode : (first_len shared : ℕ) (suffix : List ℕ) (f : Fields) (room : ℕ) (w post : List ℕ) → Typed f → encode_row first_len shared suffix f room ≡ ok w
    → DecodesTo (decode_row (w ++ post) first_len) shared suffix f w post
decode-encode first_len shared suffix f room w post t e = decodes-back first_len shared suffix f w post (encode-tells first_len shared suffix f room w e) t

-- The check accepts exactly the blocks whose trailer and offsets are good and whose rows, one at each offset, end each where the next one starts, the last at the data's end, and
-- may each follow the one before: its key is greater, or the same with a smaller sequence number. And it answers how many rows there are.
pub check-exact : (b : List ℕ) (n : ℕ) → (check b ≡ ok n → Accepts b n) × (Accepts b n → check b ≡ ok n)
check-exact b n = (check_accepts b n, accepts_check b n)

module _ (b : List ℕ) (n : ℕ) (accepted : check b ≡ ok n) where
  -- An accepted block has rows, as many as the check says.
  pub has-rows : (t : Trailer) × (rows : List Keyed) × Rows b n t rows
  has-rows = accepted-rows b n accepted

  -- If its elements are bytes, at most 5,042.
  pub rows-at-most : ((i : ℕ) → get_or b i 0 < 256) → n ≤ max_restarts
  rows-at-most bytes = let a = has-rows in omega (arith, rows_few b a.0 a.1 a.2.reads bytes, a.2.many)

module _ (b : List ℕ) (n : ℕ) (t : Trailer) (rows : List Keyed) (q : Rows b n t rows) where
  pub room-enough : RoomFor max_key rows
  room-enough = rows-room b t rows q.reads

  -- Steps with key buffers of any lengths, refused ones among them, give its rows in order, or reversed: none twice, and none left out before one that is given.
  pub walk-any_buffers : (rooms : List ℕ) → GivesFirst b (opened ascending) rooms rows × GivesFirst b (opened descending) rooms (backwards rows)
  walk-any_buffers rooms =
      let w = both_ways b t rows max_key q.reads room-enough in
      (walks-first b max_key rooms (opened ascending) rows w.forwards, walks-first b max_key rooms (opened descending) (backwards rows) w.back)

  -- Its keys never fall, so "the first at or above the target" parts its rows: those before it are below the target, and no row from it on is.
  pub first-at-or-above : (target : Key) (i : ℕ) → i < length rows → PartsBelow target rows i
  first-at-or-above target i h = first-splits target rows q.in_order i h

  -- And so does "the last at or below", which is the one before the first above: no row up to it is above the target, and every row after it is.
  pub last-at-or-below : (target : Key) (i : ℕ) → i < length rows → PartsAbove target rows i
  last-at-or-below target i h = last-splits target rows q.in_order i h

  -- No row falls between the two seeks: each is walked after the ascending seek or after the descending one (`seek_ascending_lands`, `seek_descending_lands`), and after both
  -- exactly if its key equals the target.
  pub no-row-between : (target : Key) (i : ℕ) → i < length rows → BetweenNumbers target rows i
  no-row-between target i h = between-numbers target rows q.in_order i h

  -- Two rows with equal key and equal sequence number, wherever they stand, are one.
  pub no-double-debit : (i j : ℕ) → i < length rows → j < length rows → (rank_at rows i).key ≡ (rank_at rows j).key → (rank_at rows i).seq ≡ (rank_at rows j).seq → i ≡ j
  no-double-debit = rows-no-double rows q.in_order

  module _ (room : ℕ) (fits : RoomFor room rows) where
    -- A walk from an opened cursor gives every row with its number, in order or reversed, and says "done" after exactly as many steps as there are rows, and ever after, with the
    -- cursor unchanged.
    pub walk_steps : BothWays b room rows
    walk_steps = both_ways b t rows room q.reads fits

    -- The rows walked after an ascending seek are exactly those from the first at or above the target on; it has passed all rows exactly when there is none.
    pub seek_ascending_lands : (target : Key) → SoughtUp b target rows room
    seek_ascending_lands target = sought-up b n t rows q target room fits

    -- The rows walked after a descending seek are exactly those back from the last at or below the target; it has passed all rows exactly when there is none.
    pub seek_descending_lands : (target : Key) → SoughtDown b target rows room
    seek_descending_lands target = sought-down b n t rows q target room fits

    -- Some row has the target as its key exactly when the row after the ascending seek has it; and then that is the first such row.
    pub retry_found : (target : Key) (c : Cursor) (reads : ℕ) → seek ascending b target ≡ ok (sought_is c reads)
        → ((i : ℕ) → i < length rows → get_or (keys_of rows) i [] ≡ target → FoundFirstOf (Given b room c) target rows)
        × ((k : Keyed) (moved : Cursor) (number : ℕ) → next c b room ≡ ok (step_is moved (found number k.row k.key)) → k.key ≡ target
        → (i : ℕ) × (i < length rows) × (get_or (keys_of rows) i [] ≡ target))
    retry_found target c reads e =
        let s = sought-up b n t rows q target room fits in
        let same : s.c ≡ c = ap (λ (x : Sought). x.cursor) (ok-inj (sym s.is ∙ e)) in
        (λ i h k. rw same at (retry_present b n t rows q target room fits i h k), λ k moved number g has. retry_absent b n t rows q target room fits k moved number (rw same g) has)

-- The number of keys that a seek reports is at most the number of significant bits of the row count: on every block of bytes, in both directions, for a seek that answers.
pub seek-reads-any : (b : List ℕ) → ((i : ℕ) → get_or b i 0 < 256) → (d : Direction) (target : Key) (t : Trailer) (s : Sought) → trailer_of b ≡ ok t → seek d b target ≡ ok s
    → s.reads ≤ significant_bits t.count
seek-reads-any b bytes d target t s e q = reads-at-most d b target t s (omega (arith, count_small b t bytes e)) e q

-- On an accepted block every seek answers, and so it has read at most so many; never more than 13, since there are at most 5,042 rows.
pub seek-reads-at-most : (b : List ℕ) (n : ℕ) → check b ≡ ok n → ((i : ℕ) → get_or b i 0 < 256) → (d : Direction) (target : Key)
    → (s : Sought) × (seek d b target ≡ ok s) × (s.reads ≤ significant_bits n) × (s.reads ≤ 13)
seek-reads-at-most b n accepted bytes d target = seek-answers b n accepted bytes d target

module _ (size : ℕ) (calls : List Call) (rows : List Row) (end : Lending) (block : List ℕ) (ran : Ran size calls rows end) (f : Finishes end block) where
  -- A finished block is accepted exactly when its rows are in this order: each may follow the one before.
  pub finished-accepted : (Rising no_rank (offered_ranks rows) → check block ≡ ok (length rows)) × ((n : ℕ) → check block ≡ ok n → Rising no_rank (offered_ranks rows))
  finished-accepted = let l = ran-laid size calls rows end ran block f in (laid-accepted block rows l, λ n e. accepted-laid block rows n l e)

  -- And one whose rows are not is refused with 17.
  pub finished-refused : (Rising no_rank (offered_ranks rows) → ⊥) → check block ≡ refuse 17
  finished-refused falls = laid-verdict block rows (ran-laid size calls rows end ran block f) ∙ verdict-falling no_rank (offered_ranks rows) 0 falls
