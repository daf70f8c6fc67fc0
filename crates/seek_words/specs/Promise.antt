-- What a seek over words promises: the code that it answers, and what each lent word and byte is after it, as equations to the definitions of `layout`.
use Rattle.std.specs.Prelude.{ℕ, cond, ◌≡◌, List}
use Rattle.layout.specs.Res.{Res, ok, refuse, bind}
use Rattle.layout.specs.Limits.{max_key}
use Rattle.layout.specs.Seek.{Sought, seek}
use Rattle.row_words.specs.Words.{done_code, set_by, counted, cursor_in, cursor_words}
use Rattle.block_words.specs.Exports.{KeyLeft}

abbrev pub seek_code : Res Sought → ℕ
seek_code (ok s) = cond s.cursor.done done_code 0
seek_code (refuse n) = n

pub record SeeksAs (want : Res Sought) (ws key : List ℕ) (n code : ℕ) (ws' key' : List ℕ) (n' : ℕ) : Type 0 where
  pub answer : code ≡ seek_code want
  pub state : ws' ≡ set_by want (λ s. cursor_words s.cursor) ws
  pub key-bytes : KeyLeft want (λ s. s.cursor) key key'
  pub number : n' ≡ set_by want (λ s. s.reads) n

abbrev pub SeeksFlat : List ℕ → List ℕ → List ℕ → List ℕ → ℕ → ℕ → List ℕ → List ℕ → ℕ → Type 0
SeeksFlat b target ws key n code ws' key' n' = SeeksAs (counted key max_key (bind (cursor_in ws key) λ c. seek c.order b target)) ws key n code ws' key' n'
