-- Demand 2. Inside the limits, on blocks that the check accepts: a row decodes to what was encoded; an ascending seek lands on the first row whose key is at least the target, a
-- descending seek on the last whose key is at most it, or says that none is left.
--
-- What the statements say is in Rows, of runs of calls and of steps in Runs; every call in them is a definition that a contract names. The rows of an accepted block (`Rows`) are named by
-- their places. A key buffer is asked that is no shorter than any key (`RoomFor`): one as long as the key limit is (`room-enough`). The proofs are in Proof2.
use Rattle.std.specs.Prelude.{ℕ, ◌<◌, ◌≤◌, ◌≡◌, List, [], length, get_or}
use Rattle.std.proofs.Common.{ap, sym, ◌∙◌}
use Rattle.layout.specs.Res.{ok, refuse}
use Rattle.layout.specs.Limits.{max_key, max_restarts}
use Rattle.layout.specs.Key.{Key, no_rank, Rising}
use Rattle.layout.specs.Row.{Fields, Row, encode_row, Typed}
use Rattle.layout.specs.Trailer.{Trailer}
use Rattle.layout.specs.Check.{check}
use Rattle.layout.specs.Cursor.{ascending, Cursor, opened_up, opened_down, Keyed, found, step_is, next}
use Rattle.layout.specs.Seek.{Sought, sought_is, seek}
use Rattle.demands.specs.Reads.{Accepts, keys_of}
use Rattle.demands.specs.Lends.{Call}
use Rattle.demands.specs.Runs.{Lending, Ran, Finishes, RoomFor, backwards, GivesFirst}
use Rattle.demands.specs.Rows.{DecodesBack, Rows, BothWays, SoughtUp, SoughtDown, PartsBelow, PartsAbove, FoundFirst, offered_ranks}
use Rattle.demands.specs.RunsProof.{walks-first}
use Rattle.demands.specs.Proof3.{encode-tells, ran-laid}
use Rattle.demands.specs.Proof2.{decodes-back, rows_walked, accepted-rows, rows-room, sought-up, sought-down, first-splits, last-splits, retry_present, retry_absent, restarts-few, laid-accepted, laid-verdict, accepted-laid}
use Rattle.layout.proofs.Laws.Res.{ok-inj}
use Rattle.demands.specs.Laws.Accept.{check_accepts, accepts_check, verdict-falling}

-- A row that was encoded decodes, whatever bytes follow, to what was encoded, and ends where it ended; its full key is the shared bytes of the previous key, then the suffix.
pub decode-encode : (prev_len shared : ℕ) (suffix : List ℕ) (f : Fields) (room : ℕ) (w post : List ℕ) → Typed f → encode_row prev_len shared suffix f room ≡ ok w
    → DecodesBack prev_len shared suffix f w post
decode-encode prev_len shared suffix f room w post t e = decodes-back prev_len shared suffix f w post (encode-tells prev_len shared suffix f room w e) t

-- The check accepts exactly the blocks whose trailer and offsets are good and whose rows cover the data, one starting at each restart, each of which may follow the one before: its key
-- is greater, or the same with a smaller sequence number. And it answers how many rows there are.
pub check-exact : (b : List ℕ) (n : ℕ) → (check b ≡ ok n → Accepts b n) × (Accepts b n → check b ≡ ok n)
check-exact b n = (check_accepts b n, accepts_check b n)

module _ (b : List ℕ) (n : ℕ) (accepted : check b ≡ ok n) where
  -- An accepted block has rows, as many as the check says.
  pub has-rows : (t : Trailer) × (rows : List Keyed) × Rows b n t rows
  has-rows = accepted-rows b n accepted

module _ (b : List ℕ) (n : ℕ) (t : Trailer) (rows : List Keyed) (q : Rows b n t rows) where
  pub room-enough : RoomFor max_key rows
  room-enough = rows-room b n t rows q

  -- If its elements are bytes, it has at most 5,042 restarts.
  pub restarts-at-most : ((i : ℕ) → get_or b i 0 < 256) → t.count ≤ max_restarts
  restarts-at-most bytes = restarts-few b t q.regions q.reads bytes

  -- Steps with key buffers of any lengths, refused ones among them, give its rows in order, or reversed: none twice, and none left out before one that is given.
  pub walk-any_buffers : (rooms : List ℕ) → GivesFirst b opened_up rooms rows × GivesFirst b (opened_down b t) rooms (backwards rows)
  walk-any_buffers rooms =
      let w = rows_walked b n t rows q max_key room-enough in
      (walks-first b max_key rooms opened_up rows w.forwards, walks-first b max_key rooms (opened_down b t) (backwards rows) w.back)

  -- Its keys never fall, so "the first at or above the target" parts its rows: those before it are below the target, and no row from it on is.
  pub first-at-or-above : (target : Key) (i : ℕ) → i < length rows → PartsBelow target rows i
  first-at-or-above target i h = first-splits target rows q.in_order i h

  -- And so does "the last at or below", which is the one before the first above: no row up to it is above the target, and every row after it is.
  pub last-at-or-below : (target : Key) (i : ℕ) → i < length rows → PartsAbove target rows i
  last-at-or-below target i h = last-splits target rows q.in_order i h

module _ (b : List ℕ) (n : ℕ) (t : Trailer) (rows : List Keyed) (q : Rows b n t rows) (room : ℕ) (fits : RoomFor room rows) where
  -- A walk from an opened cursor gives every row, in order or reversed, and says "done" after exactly as many steps as there are rows, and ever after, with the cursor unchanged.
  pub walk_steps : BothWays b t room rows
  walk_steps = rows_walked b n t rows q room fits

  -- The rows walked after an ascending seek are exactly those from the first at or above the target on; it is marked "done" exactly when there is none.
  pub seek_ascending_lands : (target : Key) → SoughtUp b t target rows room
  seek_ascending_lands target = sought-up b n t rows q target room fits

  -- The rows walked after a descending seek are exactly those back from the last at or below the target; it is marked "done" exactly when there is none.
  pub seek_descending_lands : (target : Key) → SoughtDown b t target rows room
  seek_descending_lands target = sought-down b n t rows q target room fits

  -- Some row has the target as its key exactly when the row after the ascending seek has it; and then that is the first such row.
  pub retry_found : (target : Key) (c : Cursor) (reads : ℕ) → seek ascending b target ≡ ok (sought_is c reads)
      → ((i : ℕ) → i < length rows → get_or (keys_of rows) i [] ≡ target → FoundFirst b target rows room c)
      × ((k : Keyed) (moved : Cursor) (region number : ℕ) → next c b room ≡ ok (step_is moved (found region number k.row k.key)) → k.key ≡ target → (i : ℕ) × (i < length rows) × (get_or (keys_of rows) i [] ≡ target))
  retry_found target c reads e =
      let s = sought-up b n t rows q target room fits in
      let same : s.c ≡ c = ap (λ (x : Sought). x.cursor) (ok-inj (sym s.is ∙ e)) in
      (λ i h k. rw same at (retry_present b n t rows q target room fits i h k), λ k moved region number g has. retry_absent b n t rows q target room fits k moved region number (rw same g) has)

-- A finished block is accepted exactly when its rows are in this order: each may follow the one before.
pub finished-accepted : (size interval : ℕ) (calls : List Call) (rows : List Row) (end : Lending) (block : List ℕ) → Ran size interval calls rows end → Finishes end block
    → (Rising no_rank (offered_ranks rows) → check block ≡ ok (length rows)) × ((n : ℕ) → check block ≡ ok n → Rising no_rank (offered_ranks rows))
finished-accepted size interval calls rows end block ran f =
    let l = ran-laid size interval calls rows end ran block f in
    (laid-accepted block interval rows l, λ n e. accepted-laid block interval rows n l e)

-- And one whose rows are not is refused with 17.
pub finished-refused : (size interval : ℕ) (calls : List Call) (rows : List Row) (end : Lending) (block : List ℕ) → Ran size interval calls rows end → Finishes end block
    → (Rising no_rank (offered_ranks rows) → ⊥) → check block ≡ refuse 17
finished-refused size interval calls rows end block ran f falls =
    laid-verdict block interval rows (ran-laid size interval calls rows end ran block f) ∙ verdict-falling no_rank (offered_ranks rows) 0 falls
