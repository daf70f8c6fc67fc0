-- What the demands speak of, whichever the format: a run of calls on a builder, each given the state and the buffers that the last one gave back.
use Rattle.std.specs.Prelude.{ℕ, ◌≤◌, ◌≡◌, List, [], ◌∷◌, ◌++◌, length, take}
use Rattle.layout.specs.Res.{Res, ok, refuse}
use Rattle.layout.specs.Key.{Key}
use Rattle.layout.specs.Row.{Fields, Row, Typed}

-- a format's builder: its state, how many bytes and places of its two lent buffers are used, its calls, and both buffers after them
pub record Maker : Type 1 where
  pub State : Type 0
  pub used : State → ℕ
  pub places : State → ℕ
  pub add : State → ℕ → ℕ → Key → Fields → Res State
  pub state_after_of : Res State → State → State
  pub data_after_of : Res State → State → Key → Fields → List ℕ → List ℕ
  pub places_after_of : Res State → State → List ℕ → List ℕ
  pub build : State → ℕ → ℕ → Res ℕ
  pub block_after_of : Res ℕ → State → List ℕ → List ℕ → List ℕ

-- any mix of calls: rows offered, rows asked about, "is it empty", and build, in the middle too; and other buffers that are lent from there on
pub data Call : Type 0 where
  offer : Row → Call
  would-fit : Row → Call
  is-empty : Call
  finish : Call
  lend_on : List ℕ → List ℕ → Call

-- the row that a call added: one that was refused is none
abbrev pub taken : {S : Type 0} → Res S → Row → List Row
taken (ok b) r = r ∷ []
taken (refuse n) r = []

-- over its two lent buffers
pub record LendingOf (m : Maker) : Type 0 where
  pub builder : m.State
  pub bytes : List ℕ
  pub places : List ℕ

module _ (m : Maker) where
  abbrev pub lending_of : m.State → List ℕ → List ℕ → LendingOf m
  lending_of b bytes places = record { builder = b; bytes = bytes; places = places }

  abbrev pub add_to : LendingOf m → Row → Res m.State
  add_to h r = m.add h.builder (length h.bytes) (length h.places) r.key r.fields

  abbrev pub build_of : LendingOf m → Res ℕ
  build_of h = m.build h.builder (length h.bytes) (length h.places)

  -- what a call gives back; the fit question and "is it empty" change nothing
  abbrev pub after : LendingOf m → Call → LendingOf m
  after h (offer r) =
      lending_of (m.state_after_of (add_to h r) h.builder) (m.data_after_of (add_to h r) h.builder r.key r.fields h.bytes) (m.places_after_of (add_to h r) h.builder h.places)
  after h (would-fit r) = h
  after h is-empty = h
  after h finish = lending_of h.builder (m.block_after_of (build_of h) h.builder h.bytes h.places) h.places
  after h (lend_on bytes places) = lending_of h.builder bytes places

  abbrev pub accepted : LendingOf m → Call → List Row
  accepted h (offer r) = taken (add_to h r) r
  accepted h (would-fit r) = []
  accepted h is-empty = []
  accepted h finish = []
  accepted h (lend_on bytes places) = []

  unfoldable pub run : LendingOf m → List Call → LendingOf m
  run h [] = h
  run h (c ∷ cs) = run (after h c) cs

  -- the accepted rows, in order
  unfoldable pub rows_of : LendingOf m → List Call → List Row
  rows_of h [] = []
  rows_of h (c ∷ cs) = accepted h c ++ rows_of (after h c) cs

-- buffers that may be lent in the place of those before: no shorter, and alike as far as they are used
pub record BeginAlike (m : Maker) (h : LendingOf m) (bytes places : List ℕ) : Type 0 where
  pub no_fewer_bytes : length h.bytes ≤ length bytes
  pub no_fewer_places : length h.places ≤ length places
  pub same_bytes : take (m.used h.builder) bytes ≡ take (m.used h.builder) h.bytes
  pub same-places : take (m.places h.builder) places ≡ take (m.places h.builder) h.places

-- numbers are offered in their types: 64 bits, signed for times
abbrev pub TypedCall : (m : Maker) → LendingOf m → Call → Type 0
TypedCall m h (offer r) = Typed r.fields
TypedCall m h (would-fit r) = Unit {0}
TypedCall m h is-empty = Unit {0}
TypedCall m h finish = Unit {0}
TypedCall m h (lend_on bytes places) = BeginAlike m h bytes places

abbrev pub TypedCalls : (m : Maker) → LendingOf m → List Call → Type 0
TypedCalls m h [] = Unit {0}
TypedCalls m h (c ∷ cs) = TypedCall m h c × TypedCalls m (after m h c) cs

-- a fresh builder, as its constructor answers it, whatever its buffers hold and however long they are, after a run of calls
pub record RanOf (m : Maker) (new : Res m.State) (calls : List Call) (rows : List Row) (end : LendingOf m) : Type 0 where
  pub fresh-one : m.State
  pub bytes : List ℕ
  pub places : List ℕ
  pub is-new : new ≡ ok fresh-one
  pub typed : TypedCalls m (lending_of m fresh-one bytes places) calls
  pub rows_are : rows ≡ rows_of m (lending_of m fresh-one bytes places) calls
  pub ends : end ≡ run m (lending_of m fresh-one bytes places) calls

-- build answers a length, and the block stands at the start of the data buffer
pub record FinishesOf (m : Maker) (h : LendingOf m) (block : List ℕ) : Type 0 where
  pub n : ℕ
  pub answers : build_of m h ≡ ok n
  pub block-is : take n (m.block_after_of (ok n) h.builder h.bytes h.places) ≡ block
