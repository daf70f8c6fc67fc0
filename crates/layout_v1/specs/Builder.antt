-- The builder of the earlier format: its state, what a state must be (18), new, the fit question, adding and building, each with both buffers after.
use Rattle.std.specs.Prelude.{ℕ, ◌+◌, ◌*◌, Bool, cond, not, ◌&&◌, ◌||◌, List, [], ltb, leb, eqb, length, take, set}
use Rattle.layout.specs.Bytes.{Bytes}
use Rattle.layout.specs.Res.{Res, ok, refuse, bind, ◌when◌else◌}
use Rattle.layout.specs.Limits.{max_key, max_block, max_offset, max_restarts}
use Rattle.layout.specs.Place.{splice}
use Rattle.layout.specs.Key.{Key}
use Rattle.layout.specs.Row.{Fields, value_of, length_tests}
use Rattle.layout.specs.Block.{trailer}
use Rattle.layout_v1.specs.Row.{least_row}
use Rattle.layout_v1.specs.Block.{laid_row}

pub record Builder : Type 0 where
  pub block_size : ℕ
  pub used : ℕ
  pub rows : ℕ
  pub first_key_len : ℕ
  pub the_first_key : Key

-- a builder as it is kept, its first key at the start of an array: the bytes past the key's length tell nothing, and are cut off here
abbrev pub kept_builder : ℕ → ℕ → ℕ → ℕ → Bytes → Builder
kept_builder size used rows first_len array = record { block_size = size; used = used; rows = rows; first_key_len = first_len; the_first_key = take first_len array }

abbrev pub fresh : ℕ → Builder
fresh size = record { block_size = size; used = 0; rows = 0; first_key_len = 0; the_first_key = [] }

-- block size outside its limits: 8
unfoldable pub new_builder : ℕ → Res Builder
new_builder size = 8 when ltb max_block size else ok (fresh size)

-- what a refused constructor gives
abbrev pub built : Res Builder → Builder
built (ok b) = b
built (refuse n) = fresh 0

unfoldable pub has_no_rows : Builder → Bool
has_no_rows b = eqb b.rows 0

-- ---- state 18, over a data buffer and an offset buffer of these lengths

unfoldable pub state_tests : Builder → ℕ → ℕ → Res (Unit {0})
state_tests b data_len places_len =
    18 when ltb max_block b.block_size else
    18 when ltb data_len b.used else
    18 when ltb places_len b.rows else
    18 when ltb max_restarts b.rows else
    18 when ltb b.used (least_row * b.rows) else
    18 when eqb b.rows 0 && ltb 0 b.used else
    18 when ltb max_key b.first_key_len else
    ok tt

-- ---- the fit question: 18, 1, 2, 3, 4

-- the key that the next row may share with: before row 0 there is none
abbrev pub shared_key : Builder → Key
shared_key b = cond (eqb b.rows 0) [] b.the_first_key

abbrev pub next_row : Builder → Key → Fields → Bytes
next_row b key f = laid_row (shared_key b) key f

abbrev pub present_size : Builder → ℕ
present_size b = b.used + 2 * b.rows + 2

-- the new row's own offset is not counted; an empty builder takes a first row of any allowed size
unfoldable pub fits : Builder → Key → Fields → Bool
fits b key f = eqb b.rows 0 || leb (present_size b + length (next_row b key f)) b.block_size

unfoldable pub would_fit : Builder → ℕ → ℕ → Key → Fields → Res (Unit {0})
would_fit b data_len places_len key f =
    bind (state_tests b data_len places_len) λ _.
    bind (length_tests (length key) (length (value_of f))) λ _.
    4 when not (fits b key f) else
    ok tt

-- ---- adding: 18, 1, 2, 3, 4, 5, 6

-- the first row's key stays
abbrev pub first_after : Builder → Key → Key
first_after b key = cond (eqb b.rows 0) key b.the_first_key

abbrev pub first_len_after : Builder → Key → ℕ
first_len_after b key = cond (eqb b.rows 0) (length key) b.first_key_len

abbrev pub grown : Builder → Key → Fields → Builder
grown b key f =
    record {
      block_size = b.block_size;
      used = b.used + length (next_row b key f);
      rows = b.rows + 1;
      first_key_len = first_len_after b key;
      the_first_key = first_after b key;
    }

-- the row would start past 65,535 (5); the block with it, trailer too, or its offset has no room (6)
unfoldable pub add : Builder → ℕ → ℕ → Key → Fields → Res Builder
add b data_len places_len key f =
    bind (would_fit b data_len places_len key f) λ _.
    5 when ltb max_offset b.used else
    6 when ltb data_len (present_size b + length (next_row b key f) + 2) else
    6 when leb places_len b.rows else
    ok (grown b key f)

-- the state given back, and both buffers: the row goes to the free rest of the data, its offset to the next place
abbrev pub state_after_of : Res Builder → Builder → Builder
state_after_of (ok b') b = b'
state_after_of (refuse n) b = b

abbrev pub data_after_of : Res Builder → Builder → Key → Fields → Bytes → Bytes
data_after_of (ok b') b key f bytes = splice bytes b.used (next_row b key f)
data_after_of (refuse n) b key f bytes = bytes

abbrev pub places_after_of : Res Builder → Builder → List ℕ → List ℕ
places_after_of (ok b') b places = set places b.rows b.used
places_after_of (refuse n) b places = places

-- ---- building: 18, 7, 6; the trailer goes after the rows, and the answer is the block's length

unfoldable pub build : Builder → ℕ → ℕ → Res ℕ
build b data_len places_len =
    bind (state_tests b data_len places_len) λ _.
    7 when eqb b.rows 0 else
    6 when ltb data_len (present_size b) else
    ok (present_size b)

abbrev pub block_after_of : Res ℕ → Builder → Bytes → List ℕ → Bytes
block_after_of (ok n) b bytes places = splice bytes b.used (trailer (take b.rows places))
block_after_of (refuse n) b bytes places = bytes
