-- Words that are loaded and stored, over plain variables: what the exits of the functions here and above use.
-- The number of words is one test, which both a load and a store begin with: known either way, it settles what is answered and left.
use Prim.Native.Nat.{ℕ}
use mathlib.Core.Bool.{Bool, true, false}
use mathlib.Core.Path.{◌≡◌, refl, sym}
use mathlib.Core.List.{List}
use lib.ListN.{length}
use borrow.Author.Tests.{eq-eqb, ne_eqb}
use Rattle.layout.specs.Res.{Res, refuse}
use Rattle.row_words.specs.Words.{bad_words, counted}
use Rattle.row_words.specs.Promise.{Stores}

pub counted-not : {A : Type 0} (ws : List ℕ) (n : ℕ) (k : Res A) → (length ws ≡ n → ⊥) → counted ws n k ≡ refuse bad_words
counted-not ws n k h = rw (ne_eqb (length ws) n h) refl

pub counted-so : {A : Type 0} (ws : List ℕ) (n : ℕ) (k : Res A) → length ws ≡ n → counted ws n k ≡ k
counted-so ws n k h = rw (eq-eqb (length ws) n h) refl

-- of a store: words of another number are left
pub stores_none : {n : ℕ} {new : List ℕ} (ws : List ℕ) → (length ws ≡ n → ⊥) → Stores n new ws false ws
stores_none {n} ws h = record { answer = sym (ne_eqb (length ws) n h); state = rw (ne_eqb (length ws) n h) refl }

pub stores_all : {n : ℕ} {new ws' : List ℕ} (ws : List ℕ) → length ws ≡ n → ws' ≡ new → Stores n new ws true ws'
stores_all {n} ws h q = record { answer = sym (eq-eqb (length ws) n h); state = rw (eq-eqb (length ws) n h) q }

-- words that are as many as they must be are stored to
pub stored : {n : ℕ} {new ws ws' : List ℕ} {r : Bool} → length ws ≡ n → Stores n new ws r ws' → ws' ≡ new
stored {n} {new} {ws} h s = rw (eq-eqb (length ws) n h) at s.state
