-- What the private functions answer and write: a row that is tested, with what was found on the way; a row that is written.
use Rattle.std.specs.Prelude.{ℕ, ◌+◌, ◌-◌, ◌≤◌, ◌≡◌, cond, List, eqb, length, drop, set, Result, Ok, Err}
use Rattle.layout.specs.Res.{Res, ok, refuse}
use Rattle.layout.specs.Key.{Key, common}
use Rattle.layout.specs.Place.{splice}
use Rattle.layout.specs.Row.{Fields, value_of, length_tests}
use Rattle.layout_v1.specs.Row.{row_bytes}
use Rattle.layout_v1.specs.Builder.{Builder, shared_key, next_row, present_size, grown, add}
use Rattle.basics.specs.Number.{number}
use Rattle.basics.specs.declared.Refusal.{Refusal}
use Rattle.row_flags.specs.Says.{fields_from}
use Rattle.row_flags.specs.declared.RowFields.{RowFields}
use Rattle.row_size_v0.specs.Promise.{Sizes}
use Rattle.state_v1.specs.declared.State.{State}
use Rattle.state_v1.specs.Says.{view_from, state_from}
use Rattle.build_in_place_v1.specs.declared.Planned.{Planned}

-- ---- tested

-- the size of a row, by its share and the lengths of its key and its value
abbrev pub SizesRow : ℕ → ℕ → ℕ → RowFields → Result ℕ Refusal → Type 0
SizesRow shared key_len value_len row r = Sizes shared (key_len - shared) row.kind value_len row.expire row.create r

-- what is found of a row that passes the tests that are wanted: its share, and the size of the block with it and its offset
abbrev pub Planning : Res (Unit {0}) → Builder → Key → Fields → Result Planned Refusal → Type 0
Planning want b key f (Ok p) = (want ≡ ok tt) × (p.shared ≡ common (shared_key b) key) × (p.size ≡ present_size b + length (next_row b key f) + 2)
Planning want b key f (Err r) = want ≡ refuse (number r)

-- of a row whose value is known by its length: it is the same whatever the value's bytes are
abbrev pub Plans : (Fields → Res (Unit {0})) → Builder → Key → RowFields → ℕ → Result Planned Refusal → Type 0
Plans want b key row value_len r = (value : List ℕ) → length value ≡ value_len → Planning (want (fields_from row value)) b key (fields_from row value) r

-- a row that passed all tests of adding, with the share that was found for it
pub record Tested (b : Builder) (bytes places : List ℕ) (key : Key) (f : Fields) (shared : ℕ) : Type 0 where
  pub share-is : shared ≡ common (shared_key b) key
  pub passed : add b (length bytes) (length places) key f ≡ ok (grown b key f)

-- ---- written

-- what the row's writer needs of it
pub record Fitting (bytes : List ℕ) (used first_len shared : ℕ) (key : Key) (f : Fields) : Type 0 where
  pub own : shared ≤ length key
  pub shares : shared ≤ first_len
  pub tested : length_tests (shared + length (drop shared key)) (length (value_of f)) ≡ ok tt
  pub room : used + length (row_bytes shared (drop shared key) f) ≤ length bytes

-- an accepted row: the state and the three arrays after it
pub record Grew (s : State) (first bytes places : List ℕ) (key : Key) (f : Fields) (r : State) (first' bytes' places' : List ℕ) : Type 0 where
  pub state : r ≡ state_from (grown (view_from s first) key f)
  pub first-after : first' ≡ cond (eqb s.rows 0) (splice first 0 key) first
  pub bytes_after : bytes' ≡ splice bytes s.used (next_row (view_from s first) key f)
  pub places-after : places' ≡ set places s.rows s.used
