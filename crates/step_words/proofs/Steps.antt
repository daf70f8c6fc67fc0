-- A step in place: what each of its exits leaves, from what `next_in_place` promised.
-- The key bytes are as many as a key may have, so the step is the rules' own (`lent-whole`); for each case of its answer, what `put_moved` stored is what a step over words has to leave.
use Prim.Native.Nat.{ℕ}
use mathlib.Core.Path.{◌≡◌, refl, ap, sym, ◌∙◌}
use mathlib.Core.List.{List}
use lib.ListN.{length}
use Rattle.std.specs.Prelude.{Result, Ok, Err}
use Rattle.layout.specs.Res.{ok}
use Rattle.layout.specs.Cursor.{next}
use Rattle.layout.specs.Limits.{max_key}
use Rattle.basics.specs.Answers.{yes}
use Rattle.basics.specs.Number.{number}
use Rattle.basics.specs.declared.Refusal.{Refusal}
use Rattle.row_decode_v2.specs.Says.{row_from}
use Rattle.row_decode_v2.specs.declared.Row.{Row}
use Rattle.step_in_place_v2.specs.Lent.{lent-whole}
use Rattle.step_in_place_v2.specs.Promise.{StepsInPlace, Moves}
use Rattle.step_in_place_v2.specs.Says.{says_moved, place_after}
use Rattle.place_v2.specs.Says.{view_in}
use Rattle.step_in_place_v2.specs.declared.Moved.{Moved}
use Rattle.step_in_place_v2.specs.declared.Moved.TheVariants.{Found, Done}
use Rattle.place_v2.specs.declared.Place.{Place}
use Rattle.row_words.specs.Words.{done_code, cursor_in, cursor_words, row_words_of, row_count}
use Rattle.block_words.specs.Exports.{StepsFlat}
use Rattle.step_words.specs.Says.{PutsMoved}
use Rattle.block_words.proofs.Steps.{stepped, ended, refused, told-refused, steps-asked}

module _ (b ws key out row : List ℕ) (p : Place) (h : length row ≡ row_count) (k : length key ≡ max_key) (is : cursor_in ws key ≡ ok (view_in p key)) where
  module _ (r : Result Moved Refusal) (key' out' : List ℕ) (m : StepsInPlace p key b out r key' out') where
    whole : Moves (next (view_in p key) b (length out)) p key out r key' out'
    whole = rw (lent-whole p key b (length out) k refl) at m

    moved-found : {q : Place} {g n : ℕ} {x : Row} {ws' row' : List ℕ} → r ≡ Ok (Found q g n x) → ws' ≡ cursor_words (view_in q key') → row' ≡ row_words_of g n (row_from x)
        → StepsFlat b ws key out row 0 ws' key' out' row'
    moved-found {q} {g} {n} {x} {ws'} e w z =
        steps-asked b ws key out row p h k is
        (stepped (view_in q key') ws key out row ws' key' out' w refl (view_in p key) (next (view_in p key) b (length out)) g n (row_from x) (yes says_moved whole.answer e)
        (sym (ap (λ (y : Result Moved Refusal). view_in (place_after y p) key') e) ∙ whole.view) whole.lent z)

    moved-done : {q : Place} {ws' : List ℕ} → r ≡ Ok (Done q) → ws' ≡ cursor_words (view_in q key') → StepsFlat b ws key out row done_code ws' key' out' row
    moved-done {q} {ws'} e w =
        steps-asked b ws key out row p h k is
        (ended (view_in q key') ws key out row ws' key' out' w refl (view_in p key) (next (view_in p key) b (length out)) (yes says_moved whole.answer e)
        (sym (ap (λ (y : Result Moved Refusal). view_in (place_after y p) key') e) ∙ whole.view) whole.lent)

    pub moved-refused : {x : Refusal} {code : ℕ} → r ≡ Err x → code ≡ number x → StepsFlat b ws key out row code ws key' out' row
    moved-refused {x} {code} e q =
        let said = yes says_moved whole.answer e in
        let z = told-refused (next (view_in p key) b (length out)) (number x) said in
        steps-asked b ws key out row p h k is
        (refused ws key out row out' key' (next (view_in p key) b (length out)) (number x) code said q z whole.lent (rw z at whole.whole))

  -- whatever was met, and what `put_moved` left of it
  pub moved-put : (r : Result Moved Refusal) (key' out' : List ℕ) → StepsInPlace p key b out r key' out' → (m : Moved) → r ≡ Ok m → {code : ℕ} {ws' row' : List ℕ} → PutsMoved m ws row code ws' row'
      → StepsFlat b ws key out row code ws' key' out' row'
  moved-put r key' out' s (Found q i n x) e g = rw g.answer (moved-found r key' out' s e g.state g.row_words)
  moved-put r key' out' s (Done q) e g = rw (g.answer, g.row_words) (moved-done r key' out' s e g.state)
