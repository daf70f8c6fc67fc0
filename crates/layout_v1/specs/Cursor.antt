-- How a cursor of the earlier format travels: a step in both directions, opening, `is_empty`; what each gives back, and the key buffer after.
use Rattle.std.specs.Prelude.{ℕ, suc, ◌-◌, Bool, cond, [], ltb, leb, eqb, length}
use Rattle.layout.specs.Bytes.{Bytes}
use Rattle.layout.specs.Res.{Res, ok, refuse, bind, ◌when◌else◌}
use Rattle.layout.specs.Place.{splice}
use Rattle.layout.specs.Key.{Key}
use Rattle.layout.specs.RowRead.{RowRead, key_length, key_of, joined}
use Rattle.layout.specs.Trailer.{Trailer, trailer_of, data_of, region_of, all_offsets}
use Rattle.layout.specs.Cursor.{Direction, ascending, descending}
use Rattle.layout_v1.specs.RowRead.{read_key}
use Rattle.layout_v1.specs.Check.{before, row_numbered}

-- a direction, and how many rows it has passed; all passed is "done"
pub record Cursor : Type 0 where
  pub order : Direction
  pub passed : ℕ

abbrev pub cursor_is : Direction → ℕ → Cursor
cursor_is d n = record { order = d; passed = n }

-- ---- a key read alone

-- the key of row i: using it tests 15 for its offset and the next
unfoldable pub key_numbered : Bytes → Trailer → Key → ℕ → Res Key
key_numbered b t first i =
    bind (region_of b t i) λ g.
    bind (read_key (data_of b t) g.start g.end (length (before first i))) λ k.
    ok (joined (data_of b t) (before first i) k.shared k.suffix_at k.suffix_len)

-- row 0's: it shares with nothing
abbrev pub the_first_key : Bytes → Trailer → Res Key
the_first_key b t = key_numbered b t [] 0

-- ---- one step

-- the row's number in the block, its place and fields, and its full key, for the lent buffer
pub data Answer : Type 0 where
  found : ℕ → RowRead → Key → Answer
  done : Answer

pub record Step : Type 0 where
  pub cursor : Cursor
  pub answer : Answer

abbrev pub step_is : Cursor → Answer → Step
step_is c a = record { cursor = c; answer = a }

-- the next row's number, where n rows of `count` are passed
abbrev pub number_of : Direction → ℕ → ℕ → ℕ
number_of ascending count n = n
number_of descending count n = count - suc n

-- 19 only for the key that is given
abbrev pub give : ℕ → ℕ → RowRead → Key → Cursor → Res Step
give room number r key c = 19 when ltb room (key_length r) else ok (step_is c (found number r key))

unfoldable pub step_to : Cursor → Bytes → Trailer → ℕ → ℕ → Res Step
step_to c b t room i =
    bind (the_first_key b t) λ first.
    bind (row_numbered b t first i) λ r.
    give room i r (key_of (data_of b t) (before first i) r) (cursor_is c.order (suc c.passed))

-- 14; 18 for more rows passed than there are; all passed says "done"; then 15 for offset 0 and the next, row 0's key; 15 for the row's offset and the next, the row; 19
unfoldable pub next : Cursor → Bytes → ℕ → Res Step
next c b room =
    bind (trailer_of b) λ t.
    18 when ltb t.count c.passed else
    cond (eqb c.passed t.count) (ok (step_is c done))
    (step_to c b t room (number_of c.order t.count c.passed))

-- what a step gives back, and the lent key buffer after it: its other bytes stay
abbrev pub cursor_after : Res Step → Cursor → Cursor
cursor_after (ok s) c = s.cursor
cursor_after (refuse n) c = c

abbrev pub key_given : Answer → Bytes → Bytes
key_given (found number r key) out = splice out 0 key
key_given done out = out

abbrev pub key_after : Res Step → Bytes → Bytes
key_after (ok s) out = key_given s.answer out
key_after (refuse n) out = out

-- ---- opening tests 14, all of 15, and reads row 0's key, in both directions

unfoldable pub open_block : Bytes → Direction → Res Cursor
open_block b d =
    bind (trailer_of b) λ t.
    bind (all_offsets b t) λ _.
    bind (the_first_key b t) λ _.
    ok (cursor_is d 0)

-- what a refused opening gives
abbrev pub cursor_or : Direction → Res Cursor → Cursor
cursor_or d (ok c) = c
cursor_or d (refuse n) = cursor_is d 0

-- ---- `is_empty`: 14 only; both ways true once all are passed

unfoldable pub is_empty : Cursor → Bytes → Res Bool
is_empty c b = bind (trailer_of b) λ t. ok (leb t.count c.passed)
