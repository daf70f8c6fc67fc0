-- What a step over lent words promises, whether in place or by value: the code that is answered, and what each lent word and byte is after it.
use Rattle.std.specs.Prelude.{ℕ, ◌≡◌, List, length, take}
use Rattle.layout.specs.Res.{Res, ok, refuse, bind}
use Rattle.layout.specs.Limits.{max_key}
use Rattle.layout.specs.Cursor.{Cursor, Answer, found, done, Step, next, key_after}
use Rattle.row_words.specs.Words.{done_code, set_by, counted, cursor_in, cursor_words, row_words_of, row_count}

-- the key's bytes beside the cursor that a call leaves: those of its key; a refusal leaves them all
abbrev pub KeyLeft : {A : Type 0} → Res A → (A → Cursor) → List ℕ → List ℕ → Type 0
KeyLeft (ok a) left key key' = take (left a).key_len key' ≡ (left a).key
KeyLeft (refuse n) left key key' = key' ≡ key

-- "done" has a code of its own
abbrev pub answer_code : Answer → ℕ
answer_code (found region number r key) = 0
answer_code done = done_code

abbrev pub step_code : Res Step → ℕ
step_code (ok s) = answer_code s.answer
step_code (refuse n) = n

abbrev pub row_given : List ℕ → Answer → List ℕ
row_given row (found region number r key) = row_words_of region number r
row_given row done = row

pub record StepsAs (want : Res Step) (ws key out row : List ℕ) (code : ℕ) (ws' key' out' row' : List ℕ) : Type 0 where
  pub answer : code ≡ step_code want
  pub state : ws' ≡ set_by want (λ s. cursor_words s.cursor) ws
  pub key-bytes : KeyLeft want (λ s. s.cursor) key key'
  pub lent : out' ≡ key_after want out
  pub row_words : row' ≡ set_by want (λ s. row_given row s.answer) row

abbrev pub StepsFlat : List ℕ → List ℕ → List ℕ → List ℕ → List ℕ → ℕ → List ℕ → List ℕ → List ℕ → List ℕ → Type 0
StepsFlat b ws key out row code ws' key' out' row' =
    StepsAs (counted row row_count (counted key max_key (bind (cursor_in ws key) λ c. next c b (length out)))) ws key out row code ws' key' out' row'
