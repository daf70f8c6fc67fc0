-- What the private functions answer, and what they ask of a cursor.
use Rattle.std.specs.Prelude.{ℕ, ◌-◌, ◌≤◌, ◌<◌, true, false, List, ◌≡◌, length, Result, Ok, Err, Option, Some, None, unwrap_or}
use Rattle.layout.specs.Res.{Res, ok, refuse}
use Rattle.layout.specs.Limits.{max_key}
use Rattle.layout.specs.RowRead.{RowRead as RowReadL, key_length, key_of}
use Rattle.layout.specs.Trailer.{Trailer as TrailerL, trailer_of, data_of, Region as RegionL, region_of, row_in}
use Rattle.layout.specs.Number.{number_at, wrong_after}
use Rattle.layout.specs.Cursor.{Direction, Cursor, marked, found, done, Step, step_is, past_row, step_up, step_back_in, step_down}
use Rattle.basics.specs.Answers.{says}
use Rattle.basics.specs.Number.{number}
use Rattle.basics.specs.Says.{says_order}
use Rattle.basics.specs.declared.Refusal.{Refusal}
use Rattle.row_decode_v2.specs.Says.{row_from}
use Rattle.row_decode_v2.specs.declared.Row.{Row}
use Rattle.trailer.specs.Says.{trailer_from, region_from}
use Rattle.trailer.specs.declared.Trailer.{Trailer}
use Rattle.place_v2.specs.declared.Place.{Place}
use Rattle.step_in_place_v2.specs.declared.Moved.{Moved}
use Rattle.step_in_place_v2.specs.declared.Moved.TheVariants.{Found, Done}
use Rattle.step_in_place_v2.specs.declared.Ahead.{Ahead}
use Rattle.step_in_place_v2.specs.declared.Behind.{Behind}
use Rattle.step_in_place_v2.specs.Lent.{next_in}
use Rattle.place_v2.specs.Says.{view_in}

-- ---- places

-- "done" sets only the mark
abbrev pub finished : Place → Moved
finished p = Done (record { order = p.order; region = p.region; at = p.at; number = p.number; key_len = p.key_len; done = true })

abbrev pub found_at : Place → ℕ → ℕ → Row → Moved
found_at p region n r = Found p region n r

-- a cursor that a step goes on with, once 14, the first 18 and the mark are tested
pub record Stands (d : Direction) (p : Place) (b : List ℕ) (t : TrailerL) : Type 0 where
  pub read : trailer_of b ≡ ok t
  pub inside : p.region < t.count
  pub few : p.key_len ≤ max_key
  pub unmarked : p.done ≡ false
  pub heads : says_order p.order ≡ d

-- the same before its direction matters
pub record Going (p : Place) (b : List ℕ) (t : TrailerL) : Type 0 where
  pub read : trailer_of b ≡ ok t
  pub inside : p.region < t.count
  pub few : p.key_len ≤ max_key
  pub unmarked : p.done ≡ false

-- of any key bytes, as many as are lent
abbrev pub StandsAs : Place → ℕ → List ℕ → Result (Option Trailer) Refusal → Type 0
StandsAs p held b (Ok (Some t)) = (held ≡ max_key) × Going p b (trailer_from t)
StandsAs p held b (Ok None) = (k : List ℕ) (room : ℕ) → length k ≡ held → next_in p k b room ≡ ok (step_is (view_in p k) done)
StandsAs p held b (Err r) = (k : List ℕ) (room : ℕ) → length k ≡ held → next_in p k b room ≡ refuse (number r)

-- ---- ascending: the row that comes next, whatever the bytes of the key are

abbrev pub passed : Cursor → List ℕ → RegionL → RowReadL → Step
passed c d g r = step_is (past_row c g r (key_of d c.key r)) (found c.region c.number r (key_of d c.key r))

abbrev pub ahead_from : Cursor → List ℕ → Option Ahead → Step
ahead_from c d (Some a) = passed c d (region_from a.region) (row_from a.row)
ahead_from c d None = step_is (marked c) done

abbrev pub says_ahead : Cursor → List ℕ → Result (Option Ahead) Refusal → Res Step
says_ahead c d = says (ahead_from c d)

-- a row that was read after the carried key, and whose key the lent buffer holds; the number that is counted on from can be
pub record Fits (p : Place) (d : List ℕ) (g : RegionL) (room : ℕ) (r : RowReadL) : Type 0 where
  pub right : wrong_after (p.at - g.start) p.number ≡ false
  pub read : row_in d g p.at p.key_len ≡ ok r
  pub held : key_length r ≤ room

abbrev pub Ready : Place → List ℕ → ℕ → Result (Option Ahead) Refusal → Type 0
Ready p d room (Ok (Some a)) = Fits p d (region_from a.region) room (row_from a.row)
Ready p d room (Ok None) = Unit {0}
Ready p d room (Err r) = Unit {0}

pub record LooksAhead (p : Place) (b : List ℕ) (t : TrailerL) (room : ℕ) (a : Result (Option Ahead) Refusal) : Type 0 where
  pub says : (k : List ℕ) → says_ahead (view_in p k) (data_of b t) a ≡ step_up (view_in p k) b t room
  pub ready : Ready p (data_of b t) room a

-- ---- descending: the region whose row comes next, whatever the bytes of the key are

abbrev pub says_behind : Cursor → List ℕ → TrailerL → ℕ → Result (Option Behind) Refusal → Res Step
says_behind c b t room (Ok (Some h)) = step_back_in c b t room h.index (region_from h.region) (unwrap_or h.passed (number_at b t h.index c.at))
says_behind c b t room (Ok None) = ok (step_is (marked c) done)
says_behind c b t room (Err r) = refuse (number r)

-- the region is the block's, and starts before the cursor's position
abbrev pub Before : Place → List ℕ → TrailerL → Result (Option Behind) Refusal → Type 0
Before p b t (Ok (Some h)) = (h.region.start < p.at) × (region_of b t h.index ≡ ok (region_from h.region))
Before p b t (Ok None) = Unit {0}
Before p b t (Err r) = Unit {0}

pub record LooksBehind (p : Place) (b : List ℕ) (t : TrailerL) (a : Result (Option Behind) Refusal) : Type 0 where
  pub says : (k : List ℕ) (room : ℕ) → says_behind (view_in p k) b t room a ≡ step_down (view_in p k) b t room
  pub before : Before p b t a
