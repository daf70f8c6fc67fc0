-- What a step starts from, once its words are loaded: all the tests of words and key bytes in one answer, and what that tells of each.
-- A call's own answer is bound to the same tests: refused there, it is refused; passed there, each one is passed.
use Prim.Native.Nat.{ℕ}
use mathlib.Core.Bool.{not}
use mathlib.Core.Path.{◌≡◌, refl, sym, ◌∙◌}
use mathlib.Core.List.{List}
use lib.Dec.{eqb}
use lib.ListN.{length}
use Rattle.layout.specs.Res.{Res, ok, refuse, bind}
use Rattle.layout.specs.Cursor.{Cursor}
use Rattle.layout.specs.Limits.{max_key}
use Rattle.row_words.specs.Words.{bad_words, counted, cursor_in, row_count}
use Rattle.row_words.proofs.Laws.{counted-not, counted-so}
use Rattle.row_words.proofs.Counted.{two-bound, counted-then}

module _ (ws key row : List ℕ) where
  pub step-no-row : (length row ≡ row_count → ⊥) → refuse bad_words ≡ counted row row_count (counted key max_key (cursor_in ws key))
  step-no-row h = sym (counted-not row row_count _ h)

  pub step-no-key : length row ≡ row_count → (length key ≡ max_key → ⊥) → refuse bad_words ≡ counted row row_count (counted key max_key (cursor_in ws key))
  step-no-key h k = sym (counted-so row row_count _ h ∙ counted-not key max_key _ k)

  pub step_so : length row ≡ row_count → length key ≡ max_key → {x : Res Cursor} → x ≡ cursor_in ws key → x ≡ counted row row_count (counted key max_key (cursor_in ws key))
  step_so h k e = e ∙ sym (counted-so row row_count _ h ∙ counted-so key max_key _ k)

  pub step_bad : {A : Type 0} (k : Cursor → Res A) → counted row row_count (counted key max_key (cursor_in ws key)) ≡ refuse bad_words
      → counted row row_count (counted key max_key (bind (cursor_in ws key) k)) ≡ refuse bad_words
  step_bad k e = sym (two-bound (not (eqb (length row) row_count)) (not (eqb (length key) max_key)) (cursor_in ws key) k) ∙ rw e refl

  pub step-tells : (c : Cursor) → counted row row_count (counted key max_key (cursor_in ws key)) ≡ ok c → (length row ≡ row_count) × (length key ≡ max_key) × (cursor_in ws key ≡ ok c)
  step-tells c e =
      let a = counted-then row row_count _ c e in
      let b = counted-then key max_key _ c a.1 in
      (a.0, b.0, b.1)
