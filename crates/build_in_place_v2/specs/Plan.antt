-- What the private functions answer and write: a row that is tested, with what was found on the way; a row that is written.
use Rattle.std.specs.Prelude.{ℕ, ◌+◌, ◌-◌, ◌^◌, ◌≤◌, ◌<◌, ◌≡◌, Bool, cond, List, [], ◌∷◌, ◌++◌, length, drop, set, Option, Some, None, Result}
use Rattle.layout.specs.Res.{Res, ok, refuse, bind}
use Rattle.layout.specs.Block.{share_of}
use Rattle.layout.specs.Builder.{Builder, at_restart, next_row, grown_size, would_fit, grown, add}
use Rattle.layout.specs.Fixed.{big}
use Rattle.layout.specs.Key.{Key}
use Rattle.layout.specs.Place.{splice}
use Rattle.layout.specs.Row.{Fields, value_of, row_bytes, length_tests}
use Rattle.layout.specs.Varint.{varint}
use Rattle.basics.specs.Answers.{says_same}
use Rattle.basics.specs.declared.Refusal.{Refusal}
use Rattle.row_flags.specs.Says.{fields_from}
use Rattle.row_flags.specs.declared.RowFields.{RowFields}
use Rattle.row_size_v2.specs.Promise.{Sizes}
use Rattle.state_v2.specs.declared.State.{State}
use Rattle.build_in_place_v2.specs.declared.Planned.{Planned}
use Rattle.state_v2.specs.Says.{view_from, state_from}

-- ---- tested

-- the size of a row, by its share and the lengths of its key and its value
abbrev pub SizesRow : ℕ → ℕ → ℕ → RowFields → Result ℕ Refusal → Type 0
SizesRow shared key_len value_len row r = Sizes shared (key_len - shared) row.kind value_len row.expire row.create r

abbrev pub plan_is : ℕ → ℕ → Bool → Planned
plan_is shared size restart = record { shared = shared; size = size; restart = restart }

-- the share of the next row, the size of the block with it, and whether it is a restart
abbrev pub plan_of : Builder → Key → Fields → Planned
plan_of b key f = plan_is (share_of (at_restart b) b.last_key_of key) (grown_size b key f) (at_restart b)

abbrev pub fitted : Builder → ℕ → ℕ → Key → Fields → Res Planned
fitted b data_len places_len key f = bind (would_fit b data_len places_len key f) λ _. ok (plan_of b key f)

abbrev pub accepted : Builder → ℕ → ℕ → Key → Fields → Res Planned
accepted b data_len places_len key f = bind (add b data_len places_len key f) λ _. ok (plan_of b key f)

-- what is found of a row whose value is known by its length: it is the same whatever the value's bytes are
abbrev pub Plans : (Fields → Res Planned) → RowFields → ℕ → Result Planned Refusal → Type 0
Plans want row value_len r = (value : List ℕ) → length value ≡ value_len → says_same r ≡ want (fields_from row value)

-- what was found; nothing where it is refused
abbrev pub FoundIs : Res Planned → Option Planned → Type 0
FoundIs want (Some p) = want ≡ ok p
FoundIs want None = (n : ℕ) × (want ≡ refuse n)

abbrev pub Finds : (Fields → Res Planned) → RowFields → ℕ → Option Planned → Type 0
Finds want row value_len r = (value : List ℕ) → length value ≡ value_len → FoundIs (want (fields_from row value)) r

-- a row that passed all tests of adding, with the share and the mark that were found for it
pub record Tested (b : Builder) (bytes places : List ℕ) (key : Key) (f : Fields) (shared : ℕ) (restart : Bool) : Type 0 where
  pub share-is : shared ≡ share_of (at_restart b) b.last_key_of key
  pub mark-is : restart ≡ at_restart b
  pub passed : add b (length bytes) (length places) key f ≡ ok (grown b key f)

-- ---- written

-- what the row's writer needs of it
pub record Fitting (bytes : List ℕ) (used last_len shared : ℕ) (key : Key) (f : Fields) : Type 0 where
  pub own : shared ≤ length key
  pub shares : shared ≤ last_len
  pub tested : length_tests (shared + length (drop shared key)) (length (value_of f)) ≡ ok tt
  pub room : used + length (row_bytes shared (drop shared key) f) ≤ length bytes

-- the bytes of a row whose flags are 0: a value with no times
abbrev pub plain_body : List ℕ → List ℕ → ℕ → List ℕ
plain_body suffix value seq = suffix ++ (value ++ (big 8 seq ++ (0 ∷ [])))

abbrev pub plain_bytes : ℕ → List ℕ → List ℕ → ℕ → List ℕ
plain_bytes shared suffix value seq = varint shared ++ (varint (length suffix) ++ (varint (length value) ++ plain_body suffix value seq))

-- and what its writer needs of it
pub record PlainFits (bytes : List ℕ) (used shared : ℕ) (key value : List ℕ) (seq : ℕ) : Type 0 where
  pub own : shared ≤ length key
  pub key-small : length key < 2 ^ 32
  pub value-small : length value < 2 ^ 32
  pub room : used + length (plain_bytes shared (drop shared key) value seq) ≤ length bytes

-- an accepted row: the state and the three arrays after it
pub record Grew (s : State) (last bytes places : List ℕ) (key : Key) (f : Fields) (r : State) (last' bytes' places' : List ℕ) : Type 0 where
  pub state : r ≡ state_from (grown (view_from s last) key f)
  pub last-after : last' ≡ splice last 0 key
  pub bytes_after : bytes' ≡ splice bytes s.used (next_row (view_from s last) key f)
  pub places-after : places' ≡ cond (at_restart (view_from s last)) (set places s.restarts s.used) places
