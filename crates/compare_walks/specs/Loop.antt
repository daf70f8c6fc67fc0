-- The loop of a walk: the walk from here on, with what is left of the limit, put upon the rows and the sum so far, is the whole. What the private functions that go
-- over plain rows ask and leave.
use Rattle.std.specs.Prelude.{◌≡◌, ℕ, ◌+◌, ◌-◌, ◌%◌, ◌^◌, ◌<◌, ◌≤◌, Bool, true, List, length, take, drop, ◌≢◌, Result, Ok, Err}
use Rattle.layout.specs.Res.{Res, ok, bind}
use Rattle.layout.specs.Cursor.{Cursor, marked, done, step_is, next}
use Rattle.layout.specs.Fixed.{unbig}
use Rattle.layout.specs.Key.{Key}
use Rattle.layout.specs.Limits.{max_key}
use Rattle.layout.specs.Place.{splice}
use Rattle.basics.specs.declared.Refusal.{Refusal}
use Rattle.row_plain_v2.specs.declared.PlainRow.{PlainRow}
use Rattle.place_v2.specs.Says.{view_in}
use Rattle.place_v2.specs.declared.Place.{Place}
use Rattle.compare_walks.specs.declared.Ran.{Ran}
use Rattle.compare_walks.specs.declared.Walked.{Walked}
use Rattle.compare_walks.specs.declared.Went.{Went}
use Rattle.compare_walks.specs.declared.Went.TheVariants.{On, Over}
use Rattle.compare_walks.specs.Says.{says_walked}
use Rattle.compare_walks.specs.Walk.{last_byte, Walk, walk_is, walk}

-- a walk put upon n rows with the sum s
abbrev pub onto : ℕ → ℕ → Walk → Res Walk
onto n s w = ok (walk_is w.over (n + w.rows) ((s + w.sum) % 2 ^ 64))

pub record Walking (want : Res Walk) (b : List ℕ) (limit : ℕ) (c : Cursor) (rows sum : ℕ) : Type 0 where
  pub left : ℕ
  pub all : rows + left ≡ limit
  pub few : sum < 2 ^ 64
  pub makes : bind (walk left c b) (onto rows sum) ≡ want

-- what a row adds, by its parts
abbrev pub added : ℕ → ℕ → Key → ℕ
added seq held key = seq + length key + held + last_byte key

-- the suffix of a plain row over the key of the row before, and what it adds
pub record PassesPlain (key d : List ℕ) (at : ℕ) (r : PlainRow) (sum sum' : ℕ) (key' : List ℕ) : Type 0 where
  pub carried : key' ≡ splice key r.shared (take r.unshared (drop (at + 3) d))
  pub summed : sum' ≡ (sum + added (unbig (take 8 (drop (r.next - 9) d))) r.value_len (take (r.shared + r.unshared) key')) % 2 ^ 64

-- rows gone over on the way: whatever walk was under way is
pub record RunsOn (b : List ℕ) (limit : ℕ) (came : Ran) (key : List ℕ) (r : Ran) (key' : List ℕ) : Type 0 where
  pub most : came.rows ≤ r.rows
  pub on : (want : Res Walk) → Walking want b limit (view_in came.place key) came.rows came.sum → Walking want b limit (view_in r.place key') r.rows r.sum

-- the end of whatever walk was under way
abbrev pub Ends : List ℕ → ℕ → Ran → List ℕ → Result Walked Refusal → Type 0
Ends b limit came key w = (want : Res Walk) → Walking want b limit (view_in came.place key) came.rows came.sum → says_walked w ≡ want

abbrev pub Goes : List ℕ → ℕ → Ran → List ℕ → Result Went Refusal → List ℕ → Type 0
Goes b limit came key (Ok (On r)) key' = RunsOn b limit came key r key'
Goes b limit came key (Ok (Over w)) key' = Ends b limit came key (Ok w)
Goes b limit came key (Err x) key' = Ends b limit came key (Err x)

abbrev pub OneMore : Ran → Result Went Refusal → Type 0
OneMore here (Ok (On r)) = r.rows ≡ here.rows + 1
OneMore here (Ok (Over w)) = Unit {0}
OneMore here (Err x) = Unit {0}

-- a step finds one row, if the limit leaves any
abbrev pub StepsOn : List ℕ → Ran → List ℕ → Result Went Refusal → List ℕ → Type 0
StepsOn b here key r key' = ((limit : ℕ) → here.rows < limit → Goes b limit here key r key') × OneMore here r

-- where a walk stops that is still under way: before a row whose key has no room
abbrev pub Stops : ℕ → ℕ → Result Went Refusal → Type 0
Stops limit room (Ok (On r)) = (r.rows < limit) × (room ≢ max_key)
Stops limit room (Ok (Over w)) = Unit {0}
Stops limit room (Err x) = Unit {0}

-- at the end of the last region a step says "done"
abbrev pub TellsOver : Place → List ℕ → Bool → Type 0
TellsOver p b r = r ≡ true → (key : List ℕ) → next (view_in p key) b max_key ≡ ok (step_is (marked (view_in p key)) done)
