-- Words that are loaded, over plain variables: what the exits of the functions here, and of the exports above, use.
-- What is loaded is the definition's once each of its tests is known.
use Prim.Native.Nat.{ℕ}
use mathlib.Core.Bool.{Bool, not}
use mathlib.Core.Path.{◌≡◌, refl, sym, ◌∙◌}
use mathlib.Core.List.{List}
use lib.Dec.{eqb}
use lib.ListN.{length}
use borrow.Author.Tests.{eqb-true, not-false}
use Rattle.std.specs.Prelude.{Some}
use Rattle.layout.specs.Res.{ok, refuse}
use Rattle.layout.specs.Cursor.{Direction, Cursor}
use Rattle.layout.proofs.Laws.Res.{guard-then}
use Rattle.basics.specs.Says.{says_order}
use Rattle.place_v2.specs.declared.Place.{Place}
use Rattle.row_words.specs.Words.{bad_words, truth_in, order_in, word_at, cursor_from, cursor_in, cursor_count}
use Rattle.block_words.specs.Says.{says_cursor}
use Rattle.row_words.proofs.Laws.{counted-not, counted-so}

pub cursor-short : (ws : List ℕ) → (length ws ≡ cursor_count → ⊥) → (key : List ℕ) → refuse bad_words ≡ cursor_in ws key
unfolding cursor_in
cursor-short ws h key = sym (counted-not ws cursor_count _ h)

pub cursor-no-order : (ws : List ℕ) → length ws ≡ cursor_count → order_in (word_at ws 0) ≡ refuse bad_words → (key : List ℕ) → refuse bad_words ≡ cursor_in ws key
unfolding cursor_in
cursor-no-order ws h o key = sym (counted-so ws cursor_count _ h ∙ rw o refl)

module _ (ws : List ℕ) (h : length ws ≡ cursor_count) {d : Direction} (o : order_in (word_at ws 0) ≡ ok d) where
  pub cursor-no-mark : truth_in (word_at ws 4) ≡ refuse bad_words → (key : List ℕ) → refuse bad_words ≡ cursor_in ws key
  unfolding cursor_in
  cursor-no-mark m key = sym (counted-so ws cursor_count _ h ∙ rw (o, m) refl)

  pub cursor-read : {b : Bool} → truth_in (word_at ws 4) ≡ ok b → (key : List ℕ) → cursor_in ws key ≡ ok (cursor_from ws key d b)
  unfolding cursor_in
  cursor-read m key = counted-so ws cursor_count _ h ∙ rw (o, m) refl

pub cursor-loaded : (ws : List ℕ) (p : Place) → length ws ≡ cursor_count → order_in (word_at ws 0) ≡ ok (says_order p.order) → truth_in (word_at ws 4) ≡ ok p.done
    → p.region ≡ word_at ws 1 → p.at ≡ word_at ws 2 → p.key_len ≡ word_at ws 3 → p.number ≡ word_at ws 5
    → (key : List ℕ) → says_cursor key (Some p) ≡ cursor_in ws key
cursor-loaded ws p h o m r a k n key = rw (r, a, k, n) (sym (cursor-read ws h o m key))

-- what is a cursor has its six words
pub cursor-counts : (ws key : List ℕ) (c : Cursor) → cursor_in ws key ≡ ok c → length ws ≡ cursor_count
unfolding cursor_in
cursor-counts ws key c e = guard-then (not (eqb (length ws) cursor_count)) bad_words _ c e λ t q. eqb-true (length ws) cursor_count (not-false (eqb (length ws) cursor_count) t)
