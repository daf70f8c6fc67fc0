-- What is stored, and a builder over a last key of as many bytes as it must have: a copy over all bytes leaves nothing of the old ones.
use Prim.Native.Nat.{ℕ, ◌+◌}
use mathlib.Core.Bool.{Bool, true, false}
use mathlib.Core.Path.{◌≡◌, refl, sym, ◌∙◌}
use mathlib.Core.List.{List, append-nil}
use lib.ListN.{length, drop_of_length-le, replicate}
use native.Mathlib.Omega.{arith}
use borrow.Author.Tests.{eq-eqb, ne_eqb, le-ltb}
use Rattle.layout.specs.Limits.{max_key}
use Rattle.layout.specs.Place.{splice, after_put}
use Rattle.buf_mut.specs.Promise.{Puts}
use Rattle.std.specs.Prelude.{Result}
use Rattle.basics.specs.declared.Refusal.{Refusal}
use Rattle.buf_mut.proofs.Laws.{copied}
use Rattle.state_v2.specs.declared.State.{State}
use Rattle.block_v2.specs.Says.{builder_from as builder_over}
use Rattle.block_v2.specs.declared.BlockBuilderV2.{BlockBuilderV2}
use Rattle.block_iterator_v2.specs.Says.{view_of}
use Rattle.block_iterator_v2.specs.declared.BlockIteratorV2.{BlockIteratorV2}
use Rattle.row_words.specs.Words.{cursor_words, cursor_count}
use Rattle.by_value_words.specs.Promise.{MakesOver, roomy, PutsIterator}

-- ---- a builder

abbrev zeros : List ℕ
zeros = replicate max_key 0

-- a builder over a last key of as many bytes as it must have
pub over-whole : (last : List ℕ) {s t : State} {r : BlockBuilderV2} → length last ≡ max_key → s ≡ t → MakesOver s last r → r ≡ builder_over t last
unfolding after_put splice
over-whole last {s} {t} {r} h e m =
    m ∙ rw (e, le-ltb (length zeros) (0 + length last) (omega (arith, h)), drop_of_length-le zeros {i = 0 + length last} (omega (arith, h)), append-nil last) refl

-- ---- a cursor

-- a copy over all bytes leaves what was copied
pub copied-whole : (src : List ℕ) {key ys : List ℕ} {p : Result ℕ Refusal} → length key ≡ max_key → length src ≡ max_key → Puts src key 0 p ys → ys ≡ src
unfolding splice
copied-whole src {key} h k q =
    copied (omega (arith, h, k)) q ∙ rw (drop_of_length-le key {i = 0 + length src} (omega (arith, h, k)), append-nil src) refl

module _ (c : BlockIteratorV2) (ws key : List ℕ) where
  pub iterator_no-words : (length ws ≡ cursor_count → ⊥) → PutsIterator c ws key false ws key
  iterator_no-words h =
      let is : roomy ws key ≡ false = rw (ne_eqb (length ws) cursor_count h) refl in
      record { answer = sym is; words = rw is refl; bytes = rw is refl }

  pub iterator_no-key : length ws ≡ cursor_count → (length key ≡ max_key → ⊥) → PutsIterator c ws key false ws key
  iterator_no-key h k =
      let is : roomy ws key ≡ false = rw (eq-eqb (length ws) cursor_count h, ne_eqb (length key) max_key k) refl in
      record { answer = sym is; words = rw is refl; bytes = rw is refl }

  module _ (h : length ws ≡ cursor_count) (k : length key ≡ max_key) where
    enough : roomy ws key ≡ true
    enough = rw (eq-eqb (length ws) cursor_count h, eq-eqb (length key) max_key k) refl

    pub iterator_put : {ws' key' : List ℕ} → ws' ≡ cursor_words (view_of c) → key' ≡ c.key → PutsIterator c ws key true ws' key'
    iterator_put w b = record { answer = sym enough; words = rw enough w; bytes = rw enough b }

    pub put-words : {r : Bool} {ws' key' : List ℕ} → PutsIterator c ws key r ws' key' → ws' ≡ cursor_words (view_of c)
    put-words p = rw enough at p.words

    pub put-bytes : {r : Bool} {ws' key' : List ℕ} → PutsIterator c ws key r ws' key' → key' ≡ c.key
    put-bytes p = rw enough at p.bytes
