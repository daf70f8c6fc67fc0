-- A step over lent words: what each exit leaves, in place and by value alike, from the answer, the cursor and the buffer that the step below promised.
-- A row, "done" and a refusal are told apart, so what was told leaves one case of the step that is wanted; a refusal leaves the cursor's words, the key bytes and the row's words.
use Prim.Native.Nat.{ℕ}
use mathlib.Core.Path.{◌≡◌, refl, ap, subst, sym, ◌∙◌}
use mathlib.Core.List.{List}
use lib.ListN.{length, take}
use borrow.Author.Tests.{eq-eqb, ne_eqb}
use Rattle.layout.specs.Res.{Res, ok, refuse, bind}
use Rattle.layout.specs.Cursor.{Cursor, Answer, found, done, Step, step_is, next, cursor_after, key_after}
use Rattle.layout.specs.Limits.{max_key}
use Rattle.layout.specs.RowRead.{RowRead as RowReadL}
use Rattle.layout.proofs.Laws.Res.{ok-inj}
use Rattle.basics.specs.Answers.{apart}
use Rattle.step_in_place_v2.specs.Says.{row as row_told, none, told_of, told, told-row, told-apart}
use Rattle.place_v2.specs.Says.{view_in}
use Rattle.place_v2.specs.declared.Place.{Place}
use Rattle.row_words.specs.Words.{bad_words, done_code, code_of, counted, cursor_in, cursor_words, row_words_of, row_count}
use Rattle.block_words.specs.Exports.{StepsAs, StepsFlat}
use Rattle.block_words.proofs.Starts.{step_bad}

-- ---- a step that is wanted of the cursor c, and the cursor d, key buffer and row that it left

module _ (d : Cursor) (ws key out row ws' key' out' : List ℕ) (w : ws' ≡ cursor_words d) (k : take d.key_len key' ≡ d.key) where
  -- with the step taken apart into its cursor and its answer
  found-row : (a : Answer) (region number : ℕ) (r : RowReadL) {row' : List ℕ} → ok (told_of a) ≡ ok (row_told region number r) → out' ≡ key_after (ok (step_is d a)) out
      → row' ≡ row_words_of region number r
      → StepsAs (ok (step_is d a)) ws key out row 0 ws' key' out' row'
  found-row (found i n s given) region number r e o q =
      let t = told-row (ok-inj e) in
      record { answer = refl; state = w; key-bytes = k; lent = o; row_words = q ∙ rw (t.0, t.1, t.2) }
  found-row done region number r e o q = absurd (told-apart (sym (ok-inj e)))

  none_left : (a : Answer) → ok (told_of a) ≡ ok none → out' ≡ key_after (ok (step_is d a)) out → StepsAs (ok (step_is d a)) ws key out row done_code ws' key' out' row
  none_left (found i n s given) e o = absurd (told-apart (ok-inj e))
  none_left done e o = record { answer = refl; state = w; key-bytes = k; lent = o; row_words = refl }

  module _ (c : Cursor) where
    pub stepped : (want : Res Step) (region number : ℕ) (r : RowReadL) {row' : List ℕ} → bind want told ≡ ok (row_told region number r) → d ≡ cursor_after want c → out' ≡ key_after want out
        → row' ≡ row_words_of region number r
        → StepsAs want ws key out row 0 ws' key' out' row'
    stepped (ok s) region number r {row'} e v o q =
        subst (λ (x : Cursor). StepsAs (ok (step_is x s.answer)) ws key out row 0 ws' key' out' row') v
        (found-row s.answer region number r e o q)
    stepped (refuse n) region number r e v o q = absurd (apart (sym e))

    pub ended : (want : Res Step) → bind want told ≡ ok none → d ≡ cursor_after want c → out' ≡ key_after want out → StepsAs want ws key out row done_code ws' key' out' row
    ended (ok s) e v o =
        subst (λ (x : Cursor). StepsAs (ok (step_is x s.answer)) ws key out row done_code ws' key' out' row) v
        (none_left s.answer e o)
    ended (refuse n) e v o = absurd (apart (sym e))

pub refused : (ws key out row out' key' : List ℕ) (want : Res Step) (k code : ℕ) → bind want told ≡ refuse k → code ≡ k → want ≡ refuse k → out' ≡ key_after want out → key' ≡ key
    → StepsAs want ws key out row code ws key' out' row
refused ws key out row out' key' want k code e q z o b = rw z (record { answer = q; state = refl; key-bytes = b; lent = o ∙ ap (λ (x : Res Step). key_after x out) z; row_words = refl })

pub told-refused : (want : Res Step) (k : ℕ) → bind want told ≡ refuse k → want ≡ refuse k
told-refused (ok s) k e = absurd (apart e)
told-refused (refuse n) k e = ap refuse (ap code_of e)

-- ---- the exports

module _ (b ws key out row : List ℕ) where
  pub steps-no-row : (length row ≡ row_count → ⊥) → StepsFlat b ws key out row bad_words ws key out row
  steps-no-row h = rw (ne_eqb (length row) row_count h) (record { answer = refl; state = refl; key-bytes = refl; lent = refl; row_words = refl })

  pub steps-no-key : length row ≡ row_count → (length key ≡ max_key → ⊥) → StepsFlat b ws key out row bad_words ws key out row
  steps-no-key h k = rw (eq-eqb (length row) row_count h, ne_eqb (length key) max_key k) (record { answer = refl; state = refl; key-bytes = refl; lent = refl; row_words = refl })

  pub steps-no-cursor : length row ≡ row_count → length key ≡ max_key → cursor_in ws key ≡ refuse bad_words → StepsFlat b ws key out row bad_words ws key out row
  steps-no-cursor h k e =
      rw (eq-eqb (length row) row_count h, eq-eqb (length key) max_key k, e) (record { answer = refl; state = refl; key-bytes = refl; lent = refl; row_words = refl })

  -- all of it, as `step_in` answers
  pub steps_bad : counted row row_count (counted key max_key (cursor_in ws key)) ≡ refuse bad_words → StepsFlat b ws key out row bad_words ws key out row
  steps_bad e = rw (step_bad ws key row (λ (c : Cursor). next c b (length out)) e) (record { answer = refl; state = refl; key-bytes = refl; lent = refl; row_words = refl })

  module _ (p : Place) (h : length row ≡ row_count) (k : length key ≡ max_key) (is : cursor_in ws key ≡ ok (view_in p key)) where
    pub steps-asked : {code : ℕ} {ws' key' out' row' : List ℕ} → StepsAs (next (view_in p key) b (length out)) ws key out row code ws' key' out' row'
        → StepsFlat b ws key out row code ws' key' out' row'
    steps-asked s = rw (eq-eqb (length row) row_count h, eq-eqb (length key) max_key k, is) s
