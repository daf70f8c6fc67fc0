-- What a call left in words and bytes is, to the next call, the cursor that it left: so the demands, which hand on cursors, hold of a chain of calls over lent
-- words. The words of a cursor read back as it where the bytes beside them begin with its key; and each call that leaves one leaves such bytes.
use Rattle.std.specs.Prelude.{ℕ, Bool, true, false, ◌≡◌, refl, List, [], ◌∷◌, take}
use Rattle.std.proofs.Common.{ap, ◌∙◌}
use Rattle.layout.specs.Res.{ok}
use Rattle.layout.specs.Cursor.{Direction, ascending, descending, Cursor, kept_cursor, Step}
use Rattle.row_words.specs.Words.{order_word, truth_word, cursor_in, cursor_words}
use Rattle.block_words.specs.Exports.{StepsAs}

parts : (d : Direction) (region at number key_len : ℕ) (m : Bool) (key : List ℕ)
    → cursor_in (order_word d ∷ region ∷ at ∷ key_len ∷ truth_word m ∷ number ∷ []) key ≡ ok (kept_cursor d region at number key_len key m)
unfolding cursor_in
parts ascending region at number key_len true key = refl
parts ascending region at number key_len false key = refl
parts descending region at number key_len true key = refl
parts descending region at number key_len false key = refl

pub cursor-again : (c : Cursor) (key : List ℕ) → take c.key_len key ≡ c.key → cursor_in (cursor_words c) key ≡ ok c
cursor-again c key h =
    parts c.order c.region c.at c.number c.key_len c.done key
    ∙ ap (λ (k : List ℕ). ok (record { order = c.order; region = c.region; at = c.at; number = c.number; key_len = c.key_len; key = k; done = c.done })) h

-- after a step that found a row or said "done", the next call reads the cursor that the step left
pub step-again : (s : Step) (ws key out row : List ℕ) (code : ℕ) (ws' key' out' row' : List ℕ) → StepsAs (ok s) ws key out row code ws' key' out' row' → cursor_in ws' key' ≡ ok s.cursor
step-again s ws key out row code ws' key' out' row' h = rw h.state (cursor-again s.cursor key' h.key-bytes)
