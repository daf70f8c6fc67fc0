-- The reads of a restart region by a caller who may hand in any region and any position: 18 where these can't belong together, then the rules' own reads.
use Rattle.std.specs.Prelude.{ℕ, Bool, cond, not, List, [], ltb, leb, eqb, length}
use Rattle.layout.specs.Res.{Res, ok, refuse, bind, ◌when◌else◌}
use Rattle.layout.specs.Place.{splice}
use Rattle.layout.specs.Key.{Key}
use Rattle.layout.specs.RowRead.{RowRead, key_length}
use Rattle.layout.specs.Trailer.{Region}
use Rattle.layout.specs.Number.{ended_by}
use Rattle.layout.specs.Cursor.{Keyed, keyed, row_ending_at}
use Rattle.layout.specs.Seek.{Stop, walk_region}
use Rattle.layout.specs.Laws.MatchWalk.{Halt, halt_of}

-- ---- what was found, and how many rows of its region end at or before it

pub record Counted (A : Type 0) : Type 0 where
  pub what : A
  pub number : ℕ

abbrev pub counted : {A : Type 0} → A → ℕ → Counted A
counted a n = record { what = a; number = n }

-- a row
abbrev pub row_numbered : List ℕ → Region → Keyed → Res (Counted RowRead)
row_numbered d g k = ok (counted k.row (ended_by d g k.row.start))

-- where a walk stopped, with how long the key of the row before is
abbrev pub halt_numbered : List ℕ → Region → Stop → Res (Counted Halt)
halt_numbered d g s = bind (halt_of s) λ h. ok (counted h (ended_by d g h.at))

-- ---- the reads

-- the row that ends at `stop`, at or before which n rows are said to, and whose key a buffer of `room` bytes is to hold: 18 where no row of the region can, the
-- rows' own refusals, 18, 18 where another number of rows does, 19
unfoldable pub ending_at : List ℕ → Region → ℕ → ℕ → ℕ → Res Keyed
ending_at d g stop n room =
    18 when leb stop g.start else
    bind (row_ending_at stop d g stop g.start []) λ k.
    18 when not (eqb n (ended_by d g stop)) else
    19 when ltb room (key_length k.row) else
    ok k

-- the first row that reaches `stop`, with its key
abbrev pub given : RowRead → ℕ → Bool → Key → ℕ → Res Keyed
given r stop wrong key room =
    18 when ltb stop r.next else
    18 when wrong else
    19 when ltb room (length key) else
    ok (keyed r key)

-- the lent buffer after it: only the key that is given is written
abbrev pub out_after : Res Keyed → List ℕ → List ℕ
out_after (ok k) out = splice out 0 k.key
out_after (refuse n) out = out

-- where the walk up to a target stops: 18 for a region that ends after the data
unfoldable pub walk_to : List ℕ → Region → Key → Res Stop
walk_to d g target =
    18 when ltb (length d) g.end else
    walk_region (length d) d g target g.start []

-- one that stops inside the region gives the key of the row before: 19 where a slice of `room` bytes does not hold it
abbrev pub held : Region → ℕ → Stop → Res Stop
held g room s = cond (ltb s.at g.end) (19 when ltb room (length s.before) else ok s) (ok s)

unfoldable pub walk_into : List ℕ → Region → Key → ℕ → Res Stop
walk_into d g target room = bind (walk_to d g target) (held g room)

-- the slice after that
abbrev pub key_left : Region → Res Stop → List ℕ → List ℕ
key_left g (ok s) key = cond (ltb s.at g.end) (splice key 0 s.before) key
key_left g (refuse n) key = key
