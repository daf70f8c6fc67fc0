-- A cursor's words that are loaded, and a row's words that are stored, over plain variables: what the exits of the functions here, and of the exports above, use.
-- What is loaded is the definition's once its tests are known; the row's number is stored behind a single row's words.
use Prim.Native.Nat.{ℕ}
use mathlib.Core.Path.{◌≡◌, refl, sym, subst, ◌∙◌}
use mathlib.Core.List.{List, [], ◌∷◌, ◌++◌}
use native.Mathlib.Omega.{arith}
use lib.ListN.{length, set, drop, length-append, length-drop}
use Rattle.std.specs.Prelude.{Some}
use Rattle.layout.specs.Res.{ok, refuse}
use Rattle.layout.specs.RowRead.{RowRead}
use Rattle.layout_v1.specs.Cursor.{Cursor}
use Rattle.basics.specs.Says.{says_order}
use Rattle.block_iterator.specs.declared.BlockIterator.{BlockIterator}
use Rattle.row_words.specs.Words.{bad_words, word_at, order_in, single_words, single_count}
use Rattle.row_words.proofs.Laws.{counted-not, counted-so}
use Rattle.row_words.proofs.Counted.{counted-then}
use Rattle.row_words.proofs.Fields.{row_count_lem}
use Rattle.row_words.proofs.Stores.{stored, stored-behind}
use Rattle.cursor_words_v1.specs.Words.{cursor_count, row_count, cursor_in, row_words_of}
use Rattle.cursor_words_v1.specs.Says.{says_cursor}

-- ---- a cursor

pub cursor-short : (ws : List ℕ) → (length ws ≡ cursor_count → ⊥) → refuse bad_words ≡ cursor_in ws
unfolding cursor_in
cursor-short ws h = sym (counted-not ws cursor_count _ h)

pub cursor-no-order : (ws : List ℕ) → length ws ≡ cursor_count → order_in (word_at ws 0) ≡ refuse bad_words → refuse bad_words ≡ cursor_in ws
unfolding cursor_in
cursor-no-order ws h o = sym (counted-so ws cursor_count _ h ∙ rw o refl)

pub cursor-loaded : (ws : List ℕ) (c : BlockIterator) → length ws ≡ cursor_count → order_in (word_at ws 0) ≡ ok (says_order c.order) → c.passed ≡ word_at ws 1
    → says_cursor (Some c) ≡ cursor_in ws
unfolding cursor_in
cursor-loaded ws c h o p = rw p (sym (counted-so ws cursor_count _ h ∙ rw o refl))

-- what is a cursor has its two words
pub cursor-counts : (ws : List ℕ) (c : Cursor) → cursor_in ws ≡ ok c → length ws ≡ cursor_count
unfolding cursor_in
cursor-counts ws c e = (counted-then ws cursor_count _ c e).0

-- ---- a row

single-count : (r : RowRead) → length (single_words r) ≡ single_count
single-count r = omega (arith, row_count_lem 0 0 r, length-append (single_words r) (0 ∷ 0 ∷ []))

pub number-stored : (ws : List ℕ) (number : ℕ) (r : RowRead) {part : List ℕ} → length ws ≡ row_count → part ≡ single_words r
    → set (part ++ drop single_count ws) 13 number ≡ row_words_of number r
number-stored ws number r h e =
    rw e
    (subst (λ (n : ℕ). stored n (single_words r ++ drop single_count ws) (number ∷ []) ≡ row_words_of number r) (single-count r)
    (stored-behind (single_words r) (drop single_count ws) (number ∷ []) (length-drop single_count ws ∙ omega (arith, h))))
