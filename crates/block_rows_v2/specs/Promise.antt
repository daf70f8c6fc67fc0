-- What many rows in one call promise: the code that is answered, and what each lent word and byte is after it, as equations to the definitions.
use Rattle.std.specs.Prelude.{ℕ, ◌/◌, cond, ◌≡◌, List, length}
use Rattle.layout.specs.Res.{Res, ok, refuse, bind}
use Rattle.layout.specs.Limits.{max_key}
use Rattle.layout.specs.Place.{splice}
use Rattle.row_words.specs.Words.{done_code, set_by, counted, cursor_in, cursor_words, row_count}
use Rattle.block_words.specs.Exports.{KeyLeft}
use Rattle.block_rows_v2.specs.Rows.{Run, next_rows, keys_of, words_of}

abbrev pub run_code : Res Run → ℕ
run_code (ok r) = cond r.over done_code 0
run_code (refuse k) = k

-- a run that is wanted: other bytes of `keys` and other words of `rows` stay
pub record RowsAs (want : Res Run) (ws key keys rows : List ℕ) (n code : ℕ) (ws' key' keys' rows' : List ℕ) (n' : ℕ) : Type 0 where
  pub answer : code ≡ run_code want
  pub state : ws' ≡ set_by want (λ r. cursor_words r.cursor) ws
  pub key-bytes : KeyLeft want (λ r. r.cursor) key key'
  pub keys-given : keys' ≡ set_by want (λ r. splice keys 0 (keys_of r.rows)) keys
  pub row_words : rows' ≡ set_by want (λ r. splice rows 0 (words_of r.rows)) rows
  pub number : n' ≡ set_by want (λ r. length r.rows) n

-- as many rows as whole times a row's words fit; words that are left over are not used
abbrev pub most_rows : List ℕ → ℕ
most_rows rows = length rows / row_count

abbrev pub RowsFlat : List ℕ → List ℕ → List ℕ → List ℕ → List ℕ → ℕ → ℕ → List ℕ → List ℕ → List ℕ → List ℕ → ℕ → Type 0
RowsFlat b ws key keys rows n code ws' key' keys' rows' n' =
    RowsAs (counted key max_key (bind (cursor_in ws key) λ c. next_rows (most_rows rows) c b (length keys))) ws key keys rows n code ws' key' keys' rows' n'
