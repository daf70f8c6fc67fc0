-- The builder: its state, what a state must be (18), new, the fit question, adding and building, each with both buffers after.
use Rattle.std.specs.Prelude.{ℕ, ◌+◌, ◌-◌, ◌*◌, ◌/◌, Bool, cond, not, ◌&&◌, ◌||◌, List, [], ltb, leb, eqb, length, take, set}
use Rattle.layout.specs.Bytes.{Bytes}
use Rattle.layout.specs.Res.{Res, ok, refuse, bind, ◌when◌else◌}
use Rattle.layout.specs.Limits.{max_key, max_block, max_interval, max_offset, max_restarts, least_row}
use Rattle.layout.specs.Place.{splice}
use Rattle.layout.specs.Key.{Key}
use Rattle.layout.specs.Row.{Fields, value_of, if_so, length_tests}
use Rattle.layout.specs.Block.{is_restart, laid_row, trailer}

pub record Builder : Type 0 where
  pub block_size : ℕ
  pub restart_interval : ℕ
  pub used : ℕ
  pub restarts : ℕ
  pub counter : ℕ
  pub last_key_len : ℕ
  pub last_key_of : Key

-- a builder as it is kept, its last key at the start of an array: the bytes past the key's length tell nothing, and are cut off here
abbrev pub kept_builder : ℕ → ℕ → ℕ → ℕ → ℕ → ℕ → Bytes → Builder
kept_builder size interval used restarts rows last_len array =
    record { block_size = size; restart_interval = interval; used = used; restarts = restarts; counter = rows; last_key_len = last_len; last_key_of = take last_len array }

abbrev pub fresh : ℕ → ℕ → Builder
fresh size interval = record { block_size = size; restart_interval = interval; used = 0; restarts = 0; counter = 0; last_key_len = 0; last_key_of = [] }

-- block size or interval outside its limits: 8
unfoldable pub new_builder : ℕ → ℕ → Res Builder
new_builder size interval =
    8 when ltb max_block size else
    8 when eqb interval 0 else
    8 when ltb max_interval interval else
    ok (fresh size interval)

-- what a refused constructor gives
abbrev pub built : Res Builder → Builder
built (ok b) = b
built (refuse n) = fresh 0 1

unfoldable pub has_no_rows : Builder → Bool
has_no_rows b = eqb b.counter 0

-- ---- state 18, over a data buffer and a restart buffer of these lengths

-- rows divided by interval, rounded up
abbrev pub restarts_of : ℕ → ℕ → ℕ
restarts_of rows interval = (rows + (interval - 1)) / interval

unfoldable pub state_tests : Builder → ℕ → ℕ → Res (Unit {0})
state_tests b data_len places_len =
    18 when ltb max_block b.block_size else
    18 when eqb b.restart_interval 0 else
    18 when ltb max_interval b.restart_interval else
    18 when ltb data_len b.used else
    18 when ltb places_len b.restarts else
    18 when ltb max_restarts b.restarts else
    18 when not (eqb b.restarts (restarts_of b.counter b.restart_interval)) else
    18 when ltb b.used (least_row * b.counter) else
    18 when eqb b.counter 0 && ltb 0 b.used else
    18 when ltb max_key b.last_key_len else
    ok tt

-- ---- the fit question: 18, 1, 2, 3, 4

abbrev pub at_restart : Builder → Bool
at_restart b = is_restart b.restart_interval b.counter

abbrev pub next_row : Builder → Key → Fields → Bytes
next_row b key f = laid_row (at_restart b) b.last_key_of key f

abbrev pub present_size : Builder → ℕ
present_size b = b.used + 2 * b.restarts + 2

-- the present size after one more row
abbrev pub grown_size : Builder → Key → Fields → ℕ
grown_size b key f = present_size b + length (next_row b key f) + if_so (at_restart b) 2

-- an empty builder accepts a first row of any allowed size
unfoldable pub fits : Builder → Key → Fields → Bool
fits b key f = eqb b.counter 0 || leb (grown_size b key f) b.block_size

unfoldable pub would_fit : Builder → ℕ → ℕ → Key → Fields → Res (Unit {0})
would_fit b data_len places_len key f =
    bind (state_tests b data_len places_len) λ _.
    bind (length_tests (length key) (length (value_of f))) λ _.
    4 when not (fits b key f) else
    ok tt

-- ---- adding: 18, 1, 2, 3, 4, 5, 6

abbrev pub grown : Builder → Key → Fields → Builder
grown b key f =
    record {
      block_size = b.block_size;
      restart_interval = b.restart_interval;
      used = b.used + length (next_row b key f);
      restarts = b.restarts + if_so (at_restart b) 1;
      counter = b.counter + 1;
      last_key_len = length key;
      last_key_of = key;
    }

unfoldable pub add : Builder → ℕ → ℕ → Key → Fields → Res Builder
add b data_len places_len key f =
    bind (would_fit b data_len places_len key f) λ _.
    5 when at_restart b && ltb max_offset b.used else
    6 when ltb data_len (grown_size b key f) else
    6 when at_restart b && leb places_len b.restarts else
    ok (grown b key f)

-- the state given back, and both buffers: the row goes to the free rest of the data, a restart's offset to the next place
abbrev pub state_after_of : Res Builder → Builder → Builder
state_after_of (ok b') b = b'
state_after_of (refuse n) b = b

abbrev pub data_after_of : Res Builder → Builder → Key → Fields → Bytes → Bytes
data_after_of (ok b') b key f bytes = splice bytes b.used (next_row b key f)
data_after_of (refuse n) b key f bytes = bytes

abbrev pub places_after_of : Res Builder → Builder → List ℕ → List ℕ
places_after_of (ok b') b places = cond (at_restart b) (set places b.restarts b.used) places
places_after_of (refuse n) b places = places

-- ---- building: 18, 7, 6; the trailer goes after the rows, and the answer is the block's length

unfoldable pub build : Builder → ℕ → ℕ → Res ℕ
build b data_len places_len =
    bind (state_tests b data_len places_len) λ _.
    7 when eqb b.counter 0 else
    6 when ltb data_len (present_size b) else
    ok (present_size b)

abbrev pub block_after_of : Res ℕ → Builder → Bytes → List ℕ → Bytes
block_after_of (ok n) b bytes places = splice bytes b.used (trailer (take b.restarts places))
block_after_of (refuse n) b bytes places = bytes
