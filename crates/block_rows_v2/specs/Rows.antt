-- Many rows in one call: what at most n steps of a cursor give, one after another, each with the room for its key that the keys before it leave.
use Rattle.std.specs.Prelude.{ℕ, zero, suc, ◌-◌, Bool, true, false, List, [], ◌∷◌, ◌++◌, length}
use Rattle.layout.specs.Res.{Res, ok, refuse, bind}
use Rattle.layout.specs.Key.{Key}
use Rattle.layout.specs.RowRead.{RowRead}
use Rattle.layout.specs.Cursor.{Cursor, Answer, found, done, Step, next}
use Rattle.row_words.specs.Words.{row_words_of}

-- a row that is given: its region, its number there, its place and fields, and its full key
pub record Given : Type 0 where
  pub region : ℕ
  pub number : ℕ
  pub row : RowRead
  pub key : Key

abbrev pub given_is : ℕ → ℕ → RowRead → Key → Given
given_is region number r key = record { region = region; number = number; row = r; key = key }

abbrev pub found_of : Given → Answer
found_of k = found k.region k.number k.row k.key

-- whether the call says "done", the cursor past the last row, and the rows with the numbers that name them and with their keys
pub record Run : Type 0 where
  pub over : Bool
  pub cursor : Cursor
  pub rows : List Given

abbrev pub run_is : Bool → Cursor → List Given → Run
run_is o c ks = record { over = o; cursor = c; rows = ks }

-- a row, before the run that follows it
abbrev pub with_row : Given → Run → Run
with_row k run = run_is false run.cursor (k ∷ run.rows)

-- a step that finds no row is not made: the cursor c stays
abbrev pub onward : Cursor → Answer → (Key → Run) → Run
onward c (found region number r key) rest = with_row (given_is region number r key) (rest key)
onward c done rest = run_is false c []

abbrev pub step_on : Cursor → Res Step → (Cursor → Key → Run) → Run
step_on c (ok s) rest = onward c s.answer (rest s.cursor)
step_on c (refuse k) rest = run_is false c []

unfoldable pub rows_from : ℕ → Cursor → List ℕ → ℕ → Run
rows_from zero c b room = run_is false c []
rows_from (suc n) c b room = step_on c (next c b room) λ d key. rows_from n d b (room - length key)

-- ---- what a call answers: where its first step finds no row, what that step answers

abbrev pub or_done : Answer → Cursor → Run → Run
or_done (found region number r key) c run = run
or_done done c run = run_is true c []

-- no row asked for: nothing is tested
unfoldable pub next_rows : ℕ → Cursor → List ℕ → ℕ → Res Run
next_rows zero c b room = ok (rows_from zero c b room)
next_rows (suc n) c b room = bind (next c b room) λ s. ok (or_done s.answer s.cursor (rows_from (suc n) c b room))

-- ---- what is lent for them: all keys one after another, and all words

abbrev pub keys_of : List Given → List ℕ
keys_of [] = []
keys_of (k ∷ ks) = k.key ++ keys_of ks

abbrev pub given_words : Given → List ℕ
given_words k = row_words_of k.region k.number k.row

abbrev pub words_of : List Given → List ℕ
words_of [] = []
words_of (k ∷ ks) = given_words k ++ words_of ks
