-- What the demands speak of: a run of calls on a builder (`Lends`), each given the state and the buffers that the last one gave back; and a run of steps on a cursor.
use Rattle.std.specs.Prelude.{ℕ, ◌≤◌, ◌≡◌, List, [], ◌∷◌, ◌++◌, length}
use Rattle.layout.specs.Res.{Res, ok, refuse}
use Rattle.layout.specs.Row.{Row}
use Rattle.layout.specs.RowRead.{key_length}
use Rattle.layout.specs.Trailer.{Trailer, trailer_of}
use Rattle.layout.specs.Builder.{Builder, new_builder, add, state_after_of, data_after_of, places_after_of, build, block_after_of}
use Rattle.layout.specs.Cursor.{Cursor, marked, Keyed, keyed, Answer, found, done, Step, step_is, next, cursor_after}
use Rattle.demands.specs.Reads.{AllOf, Names}
use Rattle.demands.specs.Lends.{Maker, Call, LendingOf, RanOf, FinishesOf}

-- ---- a builder, over its two lent buffers: the calls that its contracts name

abbrev pub maker : Maker
maker =
    record {
      State = Builder;
      used = λ (b : Builder). b.used;
      places = λ (b : Builder). b.restarts;
      add = add;
      state_after_of = state_after_of;
      data_after_of = data_after_of;
      places_after_of = places_after_of;
      build = build;
      block_after_of = block_after_of;
    }

abbrev pub Lending : Type 0
Lending = LendingOf maker

-- a fresh builder, whatever its buffers hold and however long they are, after a run of calls
abbrev pub Ran : ℕ → ℕ → List Call → List Row → Lending → Type 0
Ran size interval calls rows end = RanOf maker (new_builder size interval) calls rows end

-- build answers a length, and the block stands at the start of the data buffer
abbrev pub Finishes : Lending → List ℕ → Type 0
Finishes h block = FinishesOf maker h block

-- ---- a cursor, handed on from step to step, with a key buffer of `room` bytes

-- each row with the pair of region and number that names it
pub data Walks (b : List ℕ) (room : ℕ) : Cursor → List Keyed → Cursor → Type 0 where
  stands : (c : Cursor) → Walks b room c [] c
  gives : (c c' c'' : Cursor) (k : Keyed) (ks : List Keyed) (t : Trailer) (region number : ℕ) → trailer_of b ≡ ok t → Names b t region number k
      → next c b room ≡ ok (step_is c' (found region number k.row k.key)) → Walks b room c' ks c'' → Walks b room c (k ∷ ks) c''

-- and then says "done", with only the mark set, and ever after, unchanged
pub record EndsDone (b : List ℕ) (room : ℕ) (c : Cursor) (marked-one : Cursor) : Type 0 where
  pub says-done : next c b room ≡ ok (step_is marked-one done)
  pub ever_after : next marked-one b room ≡ ok (step_is marked-one done)

-- these rows, and then "done"
pub record WalksAll (b : List ℕ) (room : ℕ) (c : Cursor) (rows : List Keyed) : Type 0 where
  pub last : Cursor
  pub walks : Walks b room c rows last
  pub ends : EndsDone b room last (marked last)

-- a run of steps, each with a key buffer of its own: what is given, where a refused step gives nothing and leaves the cursor
abbrev pub row_in : Answer → List Keyed
row_in (found region number r key) = keyed r key ∷ []
row_in done = []

abbrev pub given_by : Res Step → List Keyed
given_by (ok s) = row_in s.answer
given_by (refuse n) = []

-- by what a step gives and the cursor that it leaves, whichever the format
unfoldable pub steps_by : {C : Type 0} → (C → ℕ → List Keyed) → (C → ℕ → C) → C → List ℕ → List Keyed
steps_by given moved c [] = []
steps_by given moved c (room ∷ rooms) = given c room ++ steps_by given moved (moved c room) rooms

abbrev pub steps_give : List ℕ → Cursor → List ℕ → List Keyed
steps_give b c rooms = steps_by (λ (c : Cursor) (room : ℕ). given_by (next c b room)) (λ (c : Cursor) (room : ℕ). cursor_after (next c b room) c) c rooms

-- these are the first of the rows, and the rest is left
pub record FirstOf (given rows : List Keyed) : Type 0 where
  pub rest : List Keyed
  pub parts : given ++ rest ≡ rows

abbrev pub GivesFirst : List ℕ → Cursor → List ℕ → List Keyed → Type 0
GivesFirst b c rooms rows = FirstOf (steps_give b c rooms) rows

-- a key buffer no shorter than any key that is given
abbrev pub RoomFor : ℕ → List Keyed → Type 0
RoomFor room ks = AllOf (λ (k : Keyed). key_length k.row ≤ room) ks

-- nor than any accepted row's
abbrev pub KeysFit : ℕ → List Row → Type 0
KeysFit room [] = Unit {0}
KeysFit room (r ∷ rs) = (length r.key ≤ room) × KeysFit room rs

-- the last row first
unfoldable pub backwards : List Keyed → List Keyed
backwards [] = []
backwards (k ∷ ks) = backwards ks ++ (k ∷ [])
