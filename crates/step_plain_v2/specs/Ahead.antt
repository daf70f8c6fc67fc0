-- When a step is plain: the cursor stands in its region, before a plain row, and the lent buffer holds the
-- row's key. What that row is, as numbers, if it is so.
use Rattle.std.specs.Prelude.{ℕ, ◌+◌, ◌-◌, ◌≡◌, false, cond, not, ◌||◌, List, ltb, eqb, length, take, Option, Some, None}
use Rattle.layout.specs.Res.{Res, ok, refuse}
use Rattle.layout.specs.Limits.{max_key}
use Rattle.layout.specs.Place.{splice}
use Rattle.layout.specs.Row.{Absent}
use Rattle.layout.specs.RowRead.{RowRead, Held, holds, gone, merges, may_share}
use Rattle.layout.specs.Trailer.{Region}
use Rattle.layout.specs.Plain.{Plain, plain_at}
use Rattle.layout.specs.Number.{wrong_after}
use Rattle.layout.specs.Cursor.{ascending, Cursor, kept_cursor, Answer, found, done, Step, next}
use Rattle.trailer.specs.Handed.{region_by}
use Rattle.step_plain_v2.specs.declared.Ahead.{Ahead}
use Rattle.step_plain_v2.specs.declared.Stepped.{Stepped}

abbrev pub ahead_with : ℕ → Plain → Ahead
ahead_with reach p = record { next = p.next; reach = reach; shared = p.shared; unshared = p.unshared; value_len = p.value_len }

-- a row that is plain, unless there is no room for its key
abbrev pub ahead_of : ℕ → ℕ → Option Plain → Option Ahead
ahead_of reach room None = None
ahead_of reach room (Some p) = cond (ltb room (p.shared + p.unshared)) None (Some (ahead_with reach p))

-- the row at `at` in a region, whose bytes end with it, after `number` rows
abbrev pub ahead_in : List ℕ → Region → ℕ → ℕ → ℕ → ℕ → Option Ahead
ahead_in b g at number key_len room =
    cond (ltb at g.start) None
    (cond (wrong_after (at - g.start) number) None
    (ahead_of g.reach room (plain_at (take g.end b) at g.end (may_share (eqb at g.start) key_len))))

-- there is none in a region that is refused
abbrev pub ahead_by : List ℕ → Res Region → ℕ → ℕ → ℕ → ℕ → Option Ahead
ahead_by b (ok g) at number key_len room = ahead_in b g at number key_len room
ahead_by b (refuse n) at number key_len room = None

-- `held` key bytes are lent
unfoldable pub ahead_at : List ℕ → ℕ → ℕ → ℕ → ℕ → ℕ → ℕ → Option Ahead
ahead_at b region at number key_len held room =
    cond (ltb max_key key_len || not (eqb held max_key)) None (ahead_by b (region_by b region) at number key_len room)

-- ---- the step

-- an ascending cursor that is not marked, its key at the start of the lent bytes
abbrev pub ascends : ℕ → ℕ → ℕ → ℕ → List ℕ → Cursor
ascends region at number key_len key = kept_cursor ascending region at number key_len key false

abbrev pub where_plain : Option Ahead → Res Step → Res Step
where_plain None s = refuse 0
where_plain (Some a) s = s

-- the rules' own step, where it is plain
unfoldable pub plain_step_of : ℕ → ℕ → ℕ → ℕ → List ℕ → List ℕ → ℕ → Res Step
plain_step_of region at number key_len key b room =
    where_plain (ahead_at b region at number key_len (length key) room) (next (ascends region at number key_len key) b room)

abbrev pub held_len : Held → ℕ
held_len (holds at n) = n
held_len gone = 0
held_len (merges at n) = n

abbrev pub stepped_to : Cursor → Answer → Option Stepped
stepped_to c (found region number r key) =
    Some (record { region = c.region; number = c.number; key_len = c.key_len; next = c.at; shared = r.shared; unshared = r.suffix_len; value_len = held_len r.held; seq = r.seq })
stepped_to c done = None

-- a step as numbers
abbrev pub stepped_of : Res Step → Option Stepped
stepped_of (ok s) = stepped_to s.cursor s.answer
stepped_of (refuse n) = None

-- the row that was stepped past, by these numbers and its place
abbrev pub row_made : ℕ → Stepped → RowRead
row_made at x =
    record {
      start = at;
      next = x.next;
      shared = x.shared;
      suffix_at = at + 3;
      suffix_len = x.unshared;
      held = holds (at + 3 + x.unshared) x.value_len;
      seq = x.seq;
      expire = Absent;
      create = Absent;
    }

-- ---- the key: the suffix w is put over the carried key, which is then given
pub record Moved (key out : List ℕ) (shared : ℕ) (w key' out' : List ℕ) : Type 0 where
  pub carried : key' ≡ splice key shared w
  pub given : out' ≡ splice out 0 (take (shared + length w) key')
