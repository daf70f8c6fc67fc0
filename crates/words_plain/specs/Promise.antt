-- What the plain step over words promises: whether it is made, and what each lent word and byte is after it.
-- It is made where the words are as many as they must be, stand for an ascending cursor that is not marked,
-- and this cursor's step is plain.
use Rattle.std.specs.Prelude.{ℕ, ◌≡◌, Bool, true, false, cond, not, ◌||◌, List, eqb, length}
use Rattle.layout.specs.Res.{Res, ok, refuse}
use Rattle.layout.specs.Cursor.{Step}
use Rattle.step_plain_v2.specs.Ahead.{plain_step_of}
use Rattle.row_words.specs.Words.{word_at, cursor_count, row_count}
use Rattle.block_words.specs.Exports.{StepsAs}

unfoldable pub plain_flat : List ℕ → List ℕ → List ℕ → ℕ → List ℕ → Res Step
plain_flat b ws key room row =
    cond (not (eqb (length ws) cursor_count) || not (eqb (length row) row_count)) (refuse 0)
    (cond (not (eqb (word_at ws 0) 0) || not (eqb (word_at ws 4) 0)) (refuse 0)
    (plain_step_of (word_at ws 1) (word_at ws 2) (word_at ws 5) (word_at ws 3) key b room))

abbrev pub is_made : Res Step → Bool
is_made (ok s) = true
is_made (refuse n) = false

pub record Made (want : Res Step) (ws key out row : List ℕ) (r : Bool) (ws' key' out' row' : List ℕ) : Type 0 where
  pub answer : r ≡ is_made want
  pub after : StepsAs want ws key out row 0 ws' key' out' row'

abbrev pub StepsFlatPlain : List ℕ → List ℕ → List ℕ → List ℕ → List ℕ → Bool → List ℕ → List ℕ → List ℕ → List ℕ → Type 0
StepsFlatPlain b ws key out row r ws' key' out' row' = Made (plain_flat b ws key (length out) row) ws key out row r ws' key' out' row'
