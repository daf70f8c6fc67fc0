-- "How a cursor travels": a step in both directions, opening, `is_empty`; what each gives back, and the key buffer after.
use Rattle.std.specs.Prelude.{ℕ, zero, suc, ◌+◌, ◌-◌, Bool, true, false, cond, not, ◌||◌, [], ltb, leb, eqb, length, take}
use Rattle.layout.specs.Bytes.{Bytes}
use Rattle.layout.specs.Res.{Res, ok, refuse, bind, ◌when◌else◌}
use Rattle.layout.specs.Limits.{max_key}
use Rattle.layout.specs.Place.{splice}
use Rattle.layout.specs.Key.{Key}
use Rattle.layout.specs.RowRead.{RowRead, key_length, key_of}
use Rattle.layout.specs.Trailer.{Trailer, trailer_of, data_of, Region, region_of, all_offsets, row_in}
use Rattle.layout.specs.Number.{number_at, wrong_after}

pub data Direction : Type 0 where
  ascending descending : Direction

pub record Cursor : Type 0 where
  pub order : Direction
  pub region : ℕ
  pub at : ℕ
  pub number : ℕ
  pub key_len : ℕ
  pub key : Key
  pub done : Bool

-- a cursor as it is kept, its key at the start of an array: the bytes past the key's length tell nothing, and are cut off here
abbrev pub kept_cursor : Direction → ℕ → ℕ → ℕ → ℕ → Bytes → Bool → Cursor
kept_cursor d region at number key_len array mark = record { order = d; region = region; at = at; number = number; key_len = key_len; key = take key_len array; done = mark }

abbrev pub cursor_is : Direction → ℕ → ℕ → ℕ → Key → Bool → Cursor
cursor_is d region at number key mark = record { order = d; region = region; at = at; number = number; key_len = length key; key = key; done = mark }

-- at a position of a block, with the true number
abbrev pub cursor_at : Bytes → Trailer → Direction → ℕ → ℕ → Key → Bool → Cursor
cursor_at b t d region at key mark = cursor_is d region at (number_at b t region at) key mark

abbrev pub marked : Cursor → Cursor
marked c = record { order = c.order; region = c.region; at = c.at; number = c.number; key_len = c.key_len; key = c.key; done = true }

-- ---- one step

-- the row's region, its number there, its place and fields, and its full key, for the lent buffer
pub data Answer : Type 0 where
  found : ℕ → ℕ → RowRead → Key → Answer
  done : Answer

pub record Step : Type 0 where
  pub cursor : Cursor
  pub answer : Answer

abbrev pub step_is : Cursor → Answer → Step
step_is c a = record { cursor = c; answer = a }

-- 19 only for the key that is given
abbrev pub give : ℕ → ℕ → ℕ → RowRead → Key → Cursor → Res Step
give room region number r key c = 19 when ltb room (key_length r) else ok (step_is c (found region number r key))

-- ascending, past a row: it is counted on from the number that came; a finished region hands over to the next at once, then with no row passed and no key
abbrev pub past_row : Cursor → Region → RowRead → Key → Cursor
past_row c g r key =
    cond (ltb g.reach r.next)
    (cursor_is ascending (c.region + 1) r.next 0 [] false)
    (cursor_is ascending c.region r.next (c.number + 1) key false)

unfoldable pub step_up : Cursor → Bytes → Trailer → ℕ → Res Step
step_up c b t room =
    bind (region_of b t c.region) λ g.
    18 when ltb c.at g.start else
    18 when ltb g.reach c.at else
    18 when wrong_after (c.at - g.start) c.number else
    cond (eqb c.at g.end) (ok (step_is (marked c) done))
    (bind (row_in (data_of b t) g c.at c.key_len) λ r.
    give room c.region c.number r (key_of (data_of b t) c.key r) (past_row c g r (key_of (data_of b t) c.key r)))

-- a row that was read, and its full key
pub record Keyed : Type 0 where
  pub row : RowRead
  pub key : Key

abbrev pub keyed : RowRead → Key → Keyed
keyed r k = record { row = r; key = k }

-- descending: of the rows of a region, read from its start, the one that ends at `stop`; rows up to there are tested as read, a row that straddles it is 18. As many steps as there are
-- bytes before `stop` are enough (`row_ending_at-enough`): the first clause is never met
unfoldable pub row_ending_at : ℕ → Bytes → Region → ℕ → ℕ → Key → Res Keyed
row_ending_at zero d g stop at before = refuse 18
row_ending_at (suc left) d g stop at before =
    bind (row_in d g at (length before)) λ r.
    cond (ltb r.next stop) (row_ending_at left d g stop r.next (key_of d before r))
    (18 when ltb stop r.next else
    ok (keyed r (key_of d before r)))

-- back past a row: the key is neither used nor changed
abbrev pub back_past : Cursor → ℕ → ℕ → RowRead → Cursor
back_past c region number r = record { order = c.order; region = region; at = r.start; number = number; key_len = c.key_len; key = c.key; done = c.done }

-- in region number `region`, of whose rows n are said to end at or before the position
unfoldable pub step_back_in : Cursor → Bytes → Trailer → ℕ → ℕ → Region → ℕ → Res Step
step_back_in c b t room region g n =
    bind (row_ending_at c.at (data_of b t) g c.at g.start []) λ k.
    18 when not (eqb n (number_at b t region c.at)) else
    give room region (number_at b t region k.row.start) k.row k.key (back_past c region (number_at b t region k.row.start) k.row)

-- at a region's start no row is passed, and the region before is next, all of it
unfoldable pub step_down : Cursor → Bytes → Trailer → ℕ → Res Step
step_down c b t room =
    bind (region_of b t c.region) λ g.
    18 when ltb c.at g.start else
    18 when ltb g.end c.at else
    cond (eqb c.at g.start)
    (18 when ltb 0 c.number else
    cond (eqb c.region 0) (ok (step_is (marked c) done))
    (bind (region_of b t (c.region - 1)) λ h. step_back_in c b t room (c.region - 1) h (number_at b t (c.region - 1) c.at)))
    (step_back_in c b t room c.region g c.number)

abbrev pub step_along : Direction → Cursor → Bytes → Trailer → ℕ → Res Step
step_along ascending c b t room = step_up c b t room
step_along descending c b t room = step_down c b t room

-- 14; 18 for region number and key; a marked cursor says "done"; then 15, 18 for the position, row tests, 19
unfoldable pub next : Cursor → Bytes → ℕ → Res Step
next c b room =
    bind (trailer_of b) λ t.
    18 when leb t.count c.region else
    18 when ltb max_key c.key_len else
    cond c.done (ok (step_is c done))
    (step_along c.order c b t room)

-- what a step gives back, and the lent key buffer after it: its other bytes stay
abbrev pub cursor_after : Res Step → Cursor → Cursor
cursor_after (ok s) c = s.cursor
cursor_after (refuse n) c = c

abbrev pub key_given : Answer → Bytes → Bytes
key_given (found region number r key) out = splice out 0 key
key_given done out = out

abbrev pub key_after : Res Step → Bytes → Bytes
key_after (ok s) out = key_given s.answer out
key_after (refuse n) out = out

-- ---- opening tests 14 and all of 15; backwards it then reads the last region, up to the data's end

abbrev pub opened_up : Cursor
opened_up = cursor_is ascending 0 0 0 [] false

abbrev pub opened_down : Bytes → Trailer → Cursor
opened_down b t = cursor_at b t descending (t.count - 1) t.size [] false

unfoldable pub open_along : Direction → Bytes → Trailer → Res Cursor
open_along ascending b t = ok opened_up
open_along descending b t =
    bind (region_of b t (t.count - 1)) λ g.
    bind (row_ending_at t.size (data_of b t) g t.size g.start []) λ _.
    ok (opened_down b t)

unfoldable pub open_block : Bytes → Direction → Res Cursor
open_block b d =
    bind (trailer_of b) λ t.
    bind (all_offsets b t) λ _.
    open_along d b t

-- what a refused opening gives
abbrev pub cursor_or : Direction → Res Cursor → Cursor
cursor_or d (ok c) = c
cursor_or d (refuse n) = cursor_is d 0 0 0 [] false

-- ---- `is_empty`: 14 only

abbrev pub exhausted : Direction → Cursor → Trailer → Bool
exhausted ascending c t = c.done || leb t.size c.at
exhausted descending c t = c.done

unfoldable pub is_empty : Cursor → Bytes → Res Bool
is_empty c b = bind (trailer_of b) λ t. ok (exhausted c.order c t)
