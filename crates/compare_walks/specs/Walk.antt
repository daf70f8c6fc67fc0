-- A walk over a block: the rules' steps from its opening on, at most so many, with the rows that they find counted and summed over.
use Rattle.std.specs.Prelude.{ℕ, zero, suc, ◌+◌, ◌-◌, ◌%◌, ◌^◌, Bool, true, false, cond, not, List, [], ◌∷◌, length, ◌==◌, slice_index}
use Rattle.layout.specs.Res.{Res, ok, refuse, bind, guard}
use Rattle.layout.specs.Limits.{max_key}
use Rattle.layout.specs.Key.{Key}
use Rattle.layout.specs.RowRead.{RowRead, Held, holds, gone, merges}
use Rattle.layout.specs.Cursor.{Cursor, open_block, Answer, found, done, next}
use Rattle.row_words.specs.Words.{bad_words, done_code, order_in}

-- ---- what a row adds: its sequence number, the lengths of its key and its value, and its key's last byte

abbrev pub held_length : Held → ℕ
held_length (holds start n) = n
held_length gone = 0
held_length (merges start n) = n

abbrev pub last_byte : Key → ℕ
last_byte key = slice_index key (length key - 1)

abbrev pub amount : RowRead → Key → ℕ
amount r key = r.seq + length key + held_length r.held + last_byte key

-- ---- the walk: whether it ended at "done", how many rows it found, and the sum of what they add

pub record Walk : Type 0 where
  pub over : Bool
  pub rows : ℕ
  pub sum : ℕ

abbrev pub walk_is : Bool → ℕ → ℕ → Walk
walk_is o n s = record { over = o; rows = n; sum = s }

abbrev pub with_row : ℕ → Walk → Res Walk
with_row n w = ok (walk_is w.over (w.rows + 1) (w.sum + n))

-- an answer, before the walk that follows it
abbrev pub onward : Answer → Res Walk → Res Walk
onward (found region number r key) rest = bind rest (with_row (amount r key))
onward done rest = ok (walk_is true 0 0)

unfoldable pub walk : ℕ → Cursor → List ℕ → Res Walk
walk zero c b = ok (walk_is false 0 0)
walk (suc limit) c b = bind (next c b max_key) λ s. onward s.answer (walk limit s.cursor b)

-- ---- what crosses the C interface: the sum as a word, and the code

abbrev pub wrapped : Walk → Res Walk
wrapped w = ok (walk_is w.over w.rows (w.sum % 2 ^ 64))

-- 254 first; then 14 and all of 15, backwards the last region's rows, and what a step refuses
abbrev pub walk_block : List ℕ → ℕ → ℕ → List ℕ → Res Walk
walk_block b order limit sums =
    guard (not (length sums == 2)) bad_words
    (bind (order_in order) λ d.
    bind (open_block b d) λ c.
    bind (walk limit c b) wrapped)

abbrev pub walk_code : Res Walk → ℕ
walk_code (ok w) = cond w.over done_code 0
walk_code (refuse n) = n

abbrev pub sums_after : Res Walk → List ℕ → List ℕ
sums_after (ok w) sums = w.rows ∷ w.sum ∷ []
sums_after (refuse n) sums = sums
