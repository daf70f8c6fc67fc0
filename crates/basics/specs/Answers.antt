-- What an answer says: its value, by what that says, or the refusal's number. What a callee's answer tells its caller, and that none says two things.
use Rattle.std.specs.Prelude.{ℕ, ◌≡◌, refl, Result, Ok, Err, IsErrAnd, ⊤}
use Rattle.std.proofs.Common.{ap, sym, ◌∙◌, arith}
use Rattle.std.proofs.lemmas.Result.{err_from_is_err_and}
use Rattle.layout.specs.Res.{Res, ok, refuse}
use Rattle.layout.proofs.Laws.Res.{ok-inj}
use Rattle.layout.specs.Place.{NumAt, num_at}
use Rattle.basics.specs.declared.Read.{Read}
use Rattle.basics.specs.declared.Refusal.{Refusal}
use Rattle.basics.specs.declared.Refusal.TheVariants.{BadState}
use Rattle.basics.specs.Number.{number, number-one}

-- an answer, by what its value says
abbrev pub says : {T A : Type 0} → (T → A) → Result T Refusal → Res A
says f (Ok v) = ok (f v)
says f (Err r) = refuse (number r)

-- a value that is a number says itself
abbrev pub says_same : {T : Type 0} → Result T Refusal → Res T
says_same = says (λ v. v)

-- what was read, with the place after it
abbrev pub num_from : Read ℕ → NumAt
num_from r = num_at r.value r.next

abbrev pub says_num : Result (Read ℕ) Refusal → Res NumAt
says_num = says num_from

-- an answer that tells no more than whether the call was good
abbrev pub says_verdict : Result ⊤ Refusal → Res (Unit {0})
says_verdict = says (λ v. tt)

-- the refusal of an answer that is one; the other case is never asked
abbrev pub refusal_of : {T : Type 0} → Result T Refusal → Refusal
refusal_of (Ok v) = BadState
refusal_of (Err r) = r

-- ---- what a callee's answer tells its caller

-- the answer a is the case v, so what it was asked to say is what v says
pub yes : {A R : Type 0} (tells : R → Res A) {a v : R} {want : Res A} → tells a ≡ want → a ≡ v → want ≡ tells v
yes tells e t = sym e ∙ ap tells t

-- a refusal that is handed on: the answer x is the refusal r, which is what it was asked to say
pub handed-on : {T A : Type 0} (f : T → A) (x : Result T Refusal) (r : Refusal) {want : Res A} → IsErrAnd x (λ q. q ≡ r) → refuse (number r) ≡ want → says f x ≡ want
handed-on f x r e w =
    let p = err_from_is_err_and x e in
    rw (p.1, p.2) w

-- ---- one to one

-- no value says what a refusal says, and refusals that say the same are one
pub apart : {A : Type 0} {a : A} {n : ℕ} → ok a ≡ refuse n → ⊥
apart e = let z : ◌≡◌ {A = ℕ} 0 1 = cc in omega arith

abbrev refusal : {A : Type 0} → Res A → ℕ
refusal (ok a) = 0
refusal (refuse n) = n

pub refused-one : {A : Type 0} {a b : Refusal} → ◌≡◌ {A = Res A} (refuse (number a)) (refuse (number b)) → a ≡ b
refused-one {A} {a} {b} e = number-one a b (ap refusal e)

-- two answers that say the same are one, where two values that say the same are
pub says-one : {T A : Type 0} (f : T → A) → ((a b : T) → f a ≡ f b → a ≡ b) → (x y : Result T Refusal) → says f x ≡ says f y → x ≡ y
says-one f one (Ok a) (Ok b) e = ap Ok (one a b (ok-inj e))
says-one f one (Ok a) (Err r) e = absurd (apart e)
says-one f one (Err r) (Ok a) e = absurd (apart (sym e))
says-one f one (Err r) (Err q) e = ap Err (refused-one e)

pub says_same-one : {T : Type 0} (x y : Result T Refusal) → says_same x ≡ says_same y → x ≡ y
says_same-one = says-one (λ v. v) (λ a b e. e)

pub says_verdict-one : (x y : Result ⊤ Refusal) → says_verdict x ≡ says_verdict y → x ≡ y
says_verdict-one = says-one (λ v. tt) (λ a b e. refl)

num_from-one : (a b : Read ℕ) → num_from a ≡ num_from b → a ≡ b
num_from-one a b e = ap (λ (x : NumAt). record { value = x.val; next = x.next }) e

pub says_num-one : (x y : Result (Read ℕ) Refusal) → says_num x ≡ says_num y → x ≡ y
says_num-one = says-one num_from num_from-one
