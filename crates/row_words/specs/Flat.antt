-- What a call promises that answers words: its code, and the words after it, which a refusal leaves. Two outcomes that keep it are equal; and it is kept where the answer that is wanted is met.
use Rattle.std.specs.Prelude.{ℕ, ◌≡◌, refl, List}
use Rattle.std.proofs.Common.{sym, ◌∙◌}
use Rattle.layout.specs.Res.{Res, ok, refuse}
use Rattle.row_words.specs.Words.{code_of, set_by}

pub record Sets {A : Type 0} (want : Res A) (words : A → List ℕ) (ws : List ℕ) (code : ℕ) (ws' : List ℕ) : Type 0 where
  pub answer : code ≡ code_of want
  pub state : ws' ≡ set_by want words ws

pub sets-settled : {A : Type 0} {want : Res A} {words : A → List ℕ} {ws xs ys : List ℕ} {c d : ℕ} → Sets want words ws c xs → Sets want words ws d ys → (c ≡ d) × (xs ≡ ys)
sets-settled a b = (a.answer ∙ sym b.answer, a.state ∙ sym b.state)

pub sets-good : {A : Type 0} {want : Res A} {words : A → List ℕ} {ws ws' : List ℕ} (a : A) → want ≡ ok a → ws' ≡ words a → Sets want words ws 0 ws'
sets-good a e q = rw (e, q) (record { answer = refl; state = refl })

pub sets-refused : {A : Type 0} {want : Res A} {words : A → List ℕ} {ws : List ℕ} {k code : ℕ} → want ≡ refuse k → code ≡ k → Sets want words ws code ws
sets-refused e q = rw (e, q) (record { answer = refl; state = refl })
