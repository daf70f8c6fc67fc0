-- What the demands speak of, in the earlier format: a run of calls on a builder, over its two lent buffers; and a run of steps on a cursor.
use Rattle.std.specs.Prelude.{ℕ, ◌≡◌, List, [], ◌∷◌}
use Rattle.layout.specs.Res.{Res, ok, refuse}
use Rattle.layout.specs.Key.{Key}
use Rattle.layout.specs.Row.{Row}
use Rattle.layout.specs.Trailer.{Trailer, trailer_of}
use Rattle.layout.specs.Cursor.{Keyed, keyed}
use Rattle.layout_v1.specs.Builder.{Builder, new_builder, add, state_after_of, data_after_of, places_after_of, build, block_after_of}
use Rattle.layout_v1.specs.Cursor.{Cursor, the_first_key, Answer, found, done, Step, step_is, next, cursor_after}
use Rattle.demands.specs.Lends.{Maker, Call, LendingOf, RanOf, FinishesOf}
use Rattle.demands.specs.Runs.{steps_by, FirstOf}
use Rattle.demands_v1.specs.Reads.{Names}

-- ---- a builder: the calls that its contracts name

abbrev pub maker : Maker
maker =
    record {
      State = Builder;
      add = add;
      state_after_of = state_after_of;
      used = λ (b : Builder). b.used;
      data_after_of = data_after_of;
      places = λ (b : Builder). b.rows;
      places_after_of = places_after_of;
      build = build;
      block_after_of = block_after_of;
    }

abbrev pub Lending : Type 0
Lending = LendingOf maker

-- a fresh builder, whatever its buffers hold and however long they are, after a run of calls
abbrev pub Ran : ℕ → List Call → List Row → Lending → Type 0
Ran size calls rows end = RanOf maker (new_builder size) calls rows end

-- build answers a length, and the block stands at the start of the data buffer
abbrev pub Finishes : Lending → List ℕ → Type 0
Finishes h block = FinishesOf maker h block

-- ---- a cursor, handed on from step to step, with a key buffer of `room` bytes

-- each row with its number in the block
pub data Walks (b : List ℕ) (room : ℕ) : Cursor → List Keyed → Cursor → Type 0 where
  stands : (c : Cursor) → Walks b room c [] c
  gives : (c c' c'' : Cursor) (k : Keyed) (ks : List Keyed) (t : Trailer) (first : Key) (number : ℕ) → trailer_of b ≡ ok t → the_first_key b t ≡ ok first → Names b t first number k
      → next c b room ≡ ok (step_is c' (found number k.row k.key)) → Walks b room c' ks c'' → Walks b room c (k ∷ ks) c''

-- these rows, and then "done", with the cursor unchanged: so ever after
pub record WalksAll (b : List ℕ) (room : ℕ) (c : Cursor) (rows : List Keyed) : Type 0 where
  pub last : Cursor
  pub walks : Walks b room c rows last
  pub says-done : next last b room ≡ ok (step_is last done)

-- a run of steps, each with a key buffer of its own: a refused step gives nothing and leaves the cursor
abbrev pub row_given : Answer → List Keyed
row_given (found number r key) = keyed r key ∷ []
row_given done = []

abbrev pub given_by : Res Step → List Keyed
given_by (ok s) = row_given s.answer
given_by (refuse n) = []

abbrev pub steps_give : List ℕ → Cursor → List ℕ → List Keyed
steps_give b c rooms = steps_by (λ (c : Cursor) (room : ℕ). given_by (next c b room)) (λ (c : Cursor) (room : ℕ). cursor_after (next c b room) c) c rooms

-- it gives the first of these rows, and the rest is left
abbrev pub GivesFirst : List ℕ → Cursor → List ℕ → List Keyed → Type 0
GivesFirst b c rooms rows = FirstOf (steps_give b c rooms) rows
