-- A step and a seek over lent words: what each exit leaves, from the answer, the cursor and the buffer that the iterator promised.
-- A row, "done" and a refusal are told apart, so what was told leaves one case of the step that is wanted; a refusal leaves the cursor's words and the row's.
use Prim.Native.Nat.{ℕ}
use mathlib.Core.Bool.{Bool, cond}
use mathlib.Core.Path.{◌≡◌, refl, ap, ap₂, sym, ◌∙◌}
use mathlib.Core.List.{List}
use native.Mathlib.Omega.{arith}
use lib.ListN.{length}
use borrow.Author.Tests.{eq-eqb, ne_eqb}
use Rattle.std.specs.Prelude.{Result, Option, Ok, Err, Some, None, ⊤}
use Rattle.layout.specs.Res.{Res, ok, refuse, bind}
use Rattle.layout.specs.RowRead.{RowRead as RowReadL}
use Rattle.layout.proofs.Laws.Res.{ok-inj}
use Rattle.layout_v1.specs.Cursor.{Cursor, Answer, found, done, Step, step_is, next, key_after}
use Rattle.layout_v1.specs.Seek.{Sought as SoughtL, sought_is, seek}
use Rattle.basics.specs.Answers.{apart, yes, says_same}
use Rattle.basics.specs.Number.{number}
use Rattle.basics.specs.Says.{says_order}
use Rattle.basics.specs.declared.Refusal.{Refusal}
use Rattle.row_decode_v2.specs.Says.{row_from}
use Rattle.block_iterator.specs.declared.Found.{Found}
use Rattle.block_iterator.specs.Promise.{Steps, StepsNext, Seeks, SeeksTarget, TellsEmpty}
use Rattle.block_iterator.specs.Says.{view_of, Told, row as row_told, none, told_of, says_next}
use Rattle.block_iterator.specs.declared.BlockIterator.{BlockIterator}
use Rattle.block_iterator.specs.declared.Next.{Next}
use Rattle.block_iterator.specs.declared.Sought.{Sought}
use Rattle.row_words.specs.Words.{bad_words, done_code, code_of}
use Rattle.cursor_words_v1.specs.Words.{row_count, cursor_in, cursor_words, row_words_of}
use Rattle.slatedb_block_v1.specs.Promise.{StepsAs, StepsFlat, SeeksAs, SeeksFlat, landed}

-- ---- a step

told-row : {m n : ℕ} {r q : RowReadL} → ◌≡◌ {A = Told} (row_told m r) (row_told n q) → (m ≡ n) × (r ≡ q)
told-row e = (cc, cc)

told-apart : {n : ℕ} {r : RowReadL} → ◌≡◌ {A = Told} (row_told n r) none → ⊥
told-apart e = let z : ◌≡◌ {A = ℕ} 0 1 = cc in omega arith

module _ (ws out row ws' out' : List ℕ) where
  -- with the step taken apart into its cursor and its answer
  found-row : (d : Cursor) (a : Answer) (k : ℕ) (r : RowReadL) {row' : List ℕ} → told_of a ≡ row_told k r → ws' ≡ cursor_words d → out' ≡ key_after (ok (step_is d a)) out
      → row' ≡ row_words_of k r → StepsAs (ok (step_is d a)) ws out row 0 ws' out' row'
  found-row d (found i s given) k r e w o q =
      let t = told-row e in
      record { answer = refl; state = w; lent = o; row_words = q ∙ rw (t.0, t.1) }
  found-row d done k r e w o q = absurd (told-apart (sym e))

  none_left : (d : Cursor) (a : Answer) → told_of a ≡ none → ws' ≡ cursor_words d → out' ≡ key_after (ok (step_is d a)) out
      → StepsAs (ok (step_is d a)) ws out row done_code ws' out' row
  none_left d (found i s given) e w o = absurd (told-apart e)
  none_left d done e w o = record { answer = refl; state = w; lent = o; row_words = refl }

  module _ (c : BlockIterator) (n : Next) where
    stepped : (want : Res Step) → Steps want c out n out' → {f : Found} {row' : List ℕ} → n.answer ≡ Ok (Some f) → ws' ≡ cursor_words (view_of n.iterator)
        → row' ≡ row_words_of f.number (row_from f.row) → StepsAs want ws out row 0 ws' out' row'
    stepped (ok s) p {f} e w q = found-row s.cursor s.answer f.number (row_from f.row) (ok-inj (yes says_next p.answer e)) (w ∙ ap cursor_words p.view) p.lent q
    stepped (refuse m) p e w q = absurd (apart (sym (yes says_next p.answer e)))

    ended : (want : Res Step) → Steps want c out n out' → n.answer ≡ Ok None → ws' ≡ cursor_words (view_of n.iterator) → StepsAs want ws out row done_code ws' out' row
    ended (ok s) p e w = none_left s.cursor s.answer (ok-inj (yes says_next p.answer e)) (w ∙ ap cursor_words p.view) p.lent
    ended (refuse m) p e w = absurd (apart (sym (yes says_next p.answer e)))

module _ (ws out row out' : List ℕ) (c : BlockIterator) (n : Next) where
  unstepped : (want : Res Step) → Steps want c out n out' → {x : Refusal} {code : ℕ} → n.answer ≡ Err x → code ≡ number x → StepsAs want ws out row code ws out' row
  unstepped (ok s) p e q = absurd (apart (yes says_next p.answer e))
  unstepped (refuse m) p e q = record { answer = q ∙ sym (ap code_of (yes says_next p.answer e)); state = refl; lent = p.lent; row_words = refl }

module _ (b ws out row : List ℕ) where
  pub steps-no-row : (length row ≡ row_count → ⊥) → StepsFlat b ws out row bad_words ws out row
  steps-no-row h = rw (ne_eqb (length row) row_count h) (record { answer = refl; state = refl; lent = refl; row_words = refl })

  pub steps-no-cursor : length row ≡ row_count → cursor_in ws ≡ refuse bad_words → StepsFlat b ws out row bad_words ws out row
  steps-no-cursor h e = rw (eq-eqb (length row) row_count h, e) (record { answer = refl; state = refl; lent = refl; row_words = refl })

  module _ (c : BlockIterator) (h : length row ≡ row_count) (is : cursor_in ws ≡ ok (view_of c)) where
    asked : {code : ℕ} {ws' out' row' : List ℕ} → StepsAs (next (view_of c) b (length out)) ws out row code ws' out' row' → StepsFlat b ws out row code ws' out' row'
    asked s = rw (eq-eqb (length row) row_count h, is) s

    module _ (n : Next) (out' : List ℕ) (p : StepsNext c b out n out') where
      pub steps-found : {f : Found} {ws' row' : List ℕ} → n.answer ≡ Ok (Some f) → ws' ≡ cursor_words (view_of n.iterator) → row' ≡ row_words_of f.number (row_from f.row)
          → StepsFlat b ws out row 0 ws' out' row'
      steps-found {f} {ws'} e w q = asked (stepped ws out row ws' out' c n (next (view_of c) b (length out)) p e w q)

      pub steps-done : {ws' : List ℕ} → n.answer ≡ Ok None → ws' ≡ cursor_words (view_of n.iterator) → StepsFlat b ws out row done_code ws' out' row
      steps-done {ws'} e w = asked (ended ws out row ws' out' c n (next (view_of c) b (length out)) p e w)

      pub steps-refused : {x : Refusal} {code : ℕ} → n.answer ≡ Err x → code ≡ number x → StepsFlat b ws out row code ws out' row
      steps-refused e q = asked (unstepped ws out row out' c n (next (view_of c) b (length out)) p e q)

-- ---- a seek

module _ (b ws : List ℕ) (n k : ℕ) (c : BlockIterator) (r : Result Bool Refusal) (t : TellsEmpty c b r) where
  pub lands : {o : Bool} {code : ℕ} {ws' : List ℕ} → r ≡ Ok o → code ≡ cond o done_code 0 → ws' ≡ cursor_words (view_of c)
      → SeeksAs (landed b (sought_is (view_of c) k)) ws n code ws' k
  lands e q w = rw (yes says_same t e) (record { answer = q; state = w; number = refl })

  pub lands-not : {x : Refusal} {code : ℕ} → r ≡ Err x → code ≡ number x → SeeksAs (landed b (sought_is (view_of c) k)) ws n code ws n
  lands-not e q = rw (yes says_same t e) (record { answer = q; state = refl; number = refl })

module _ (c : BlockIterator) (r : Sought) where
  sought-so : (want : Res SoughtL) → Seeks want c r → {k : ℕ} → r.answer ≡ Ok k → want ≡ ok (sought_is (view_of r.iterator) k)
  sought-so (ok s) p e = sym (ap₂ (λ (x : Cursor) (y : ℕ). ok (sought_is x y)) p.view (sym (ok-inj (yes says_same p.answer e))))
  sought-so (refuse m) p e = absurd (apart (sym (yes says_same p.answer e)))

  sought-not : (want : Res SoughtL) → Seeks want c r → {x : Refusal} → r.answer ≡ Err x → want ≡ refuse (number x)
  sought-not (ok s) p e = absurd (apart (yes says_same p.answer e))
  sought-not (refuse m) p e = ap refuse (ap code_of (yes says_same p.answer e))

module _ (b target ws : List ℕ) (n : ℕ) where
  pub seeks-no-cursor : cursor_in ws ≡ refuse bad_words → SeeksFlat b target ws n bad_words ws n
  seeks-no-cursor e = rw e (record { answer = refl; state = refl; number = refl })

  module _ (c : BlockIterator) (r : Sought) (is : cursor_in ws ≡ ok (view_of c)) (p : SeeksTarget c b target r) where
    sought : {code n' : ℕ} {ws' : List ℕ} → SeeksAs (bind (seek (says_order c.order) b target) (landed b)) ws n code ws' n' → SeeksFlat b target ws n code ws' n'
    sought a = rw is a

    -- whatever `put_sought` left
    pub seeks-landed : {k code n' : ℕ} {ws' : List ℕ} → r.answer ≡ Ok k → SeeksAs (landed b (sought_is (view_of r.iterator) k)) ws n code ws' n'
        → SeeksFlat b target ws n code ws' n'
    seeks-landed e a = let w = sought-so c r (seek (says_order c.order) b target) p e in sought (rw w a)

    pub seeks-refused : {x : Refusal} {code : ℕ} → r.answer ≡ Err x → code ≡ number x → SeeksFlat b target ws n code ws n
    seeks-refused e q =
        let w = sought-not c r (seek (says_order c.order) b target) p e in
        sought (rw w (record { answer = q; state = refl; number = refl }))
