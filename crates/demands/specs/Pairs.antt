-- What is said of the pairs of region and number: a run of calls on a cursor, steps and seeks in any order; the pairs that the steps of a walk carry; and those of a
-- block's rows, counted region by region.
use Rattle.std.specs.Prelude.{ℕ, suc, ◌≡◌, cond, List, [], ◌∷◌, ◌++◌, ltb}
use Rattle.layout.specs.Res.{ok}
use Rattle.layout.specs.Key.{Key}
use Rattle.layout.specs.Trailer.{Trailer}
use Rattle.layout.specs.Cursor.{Direction, Cursor, Keyed, open_block, next, cursor_after}
use Rattle.layout.specs.Seek.{seek, sought_after}
use Rattle.demands.specs.Reads.{Names}
use Rattle.demands.specs.Runs.{Walks, stands, gives}

-- ---- a cursor, handed on from call to call

-- a step with a key buffer of so many bytes, or a seek
pub data CursorCall : Type 0 where
  step : ℕ → CursorCall
  seek-to : Key → CursorCall

-- a refused call gives the cursor back as it came
abbrev pub after_call : List ℕ → Cursor → CursorCall → Cursor
after_call b c (step room) = cursor_after (next c b room) c
after_call b c (seek-to target) = sought_after (seek c.order b target) c

unfoldable pub cursor_run : List ℕ → Cursor → List CursorCall → Cursor
cursor_run b c [] = c
cursor_run b c (call ∷ calls) = cursor_run b (after_call b c call) calls

-- a cursor that the block was opened with, in either direction, after any calls
pub record Reached (b : List ℕ) (c : Cursor) : Type 0 where
  pub d : Direction
  pub opened : Cursor
  pub calls : List CursorCall
  pub opens : open_block b d ≡ ok opened
  pub is : c ≡ cursor_run b opened calls

-- ---- pairs, in order

pub record Pair : Type 0 where
  pub region : ℕ
  pub number : ℕ

abbrev pub pair_is : ℕ → ℕ → Pair
pair_is region number = record { region = region; number = number }

-- those that the steps of a walk carry
unfoldable pub pairs_of : {b : List ℕ} {room : ℕ} {c : Cursor} {ks : List Keyed} {c' : Cursor} → Walks b room c ks c' → List Pair
pairs_of (stands c) = []
pairs_of (gives c c' c'' k ks t region number _ _ _ w) = pair_is region number ∷ pairs_of w

-- for each of some rows of a region one, counted on from `number`
unfoldable pub pairs_in : ℕ → ℕ → List Keyed → List Pair
pairs_in region number [] = []
pairs_in region number (k ∷ ks) = pair_is region number ∷ pairs_in region (suc number) ks

-- region by region, counted on from `region`; in each from 0
unfoldable pub pairs_from : ℕ → List (List Keyed) → List Pair
pairs_from region [] = []
pairs_from region (rows ∷ more) = pairs_in region 0 rows ++ pairs_from (suc region) more

-- each names its row
pub data NamesEach (b : List ℕ) (t : Trailer) : List Pair → List Keyed → Type 0 where
  none : NamesEach b t [] []
  also : (p : Pair) (k : Keyed) (ps : List Pair) (ks : List Keyed) → Names b t p.region p.number k → NamesEach b t ps ks → NamesEach b t (p ∷ ps) (k ∷ ks)

-- ---- how many of some rows end at or before a position

unfoldable pub ended_of : ℕ → List Keyed → ℕ
ended_of at [] = 0
ended_of at (k ∷ ks) = cond (ltb at k.row.next) (ended_of at ks) (suc (ended_of at ks))
