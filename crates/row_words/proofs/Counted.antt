-- Words that were counted, once more: two counts before what is bound to their answer, and what one that passed tells.
use Prim.Native.Nat.{ℕ}
use mathlib.Core.Bool.{Bool, true, false, not}
use mathlib.Core.Path.{◌≡◌, refl}
use mathlib.Core.List.{List}
use lib.Dec.{eqb}
use lib.ListN.{length}
use borrow.Author.Tests.{eqb-true, not-false}
use Rattle.layout.specs.Res.{Res, ok, bind, guard}
use Rattle.layout.proofs.Laws.Res.{guard-then}
use Rattle.row_words.specs.Words.{bad_words, counted}

pub two-bound : {A B : Type 0} (b c : Bool) (x : Res A) (k : A → Res B) → bind (guard b bad_words (guard c bad_words x)) k ≡ guard b bad_words (guard c bad_words (bind x k))
two-bound true c x k = refl
two-bound false true x k = refl
two-bound false false x k = refl

pub counted-then : {A : Type 0} (ws : List ℕ) (n : ℕ) (x : Res A) (a : A) → counted ws n x ≡ ok a → (length ws ≡ n) × (x ≡ ok a)
counted-then ws n x a e = guard-then (not (eqb (length ws) n)) bad_words x a e λ t q. (eqb-true (length ws) n (not-false (eqb (length ws) n) t), q)
