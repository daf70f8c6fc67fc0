-- An answer: a value, or the number of a refusal. The order of tests is the order of lines.
use Rattle.std.specs.Prelude.{ℕ, Bool, true, false}

infixr 1 ◌when◌else◌
pub data Res (A : Type 0) : Type 0 where
  ok : A → Res A
  refuse : ℕ → Res A

-- go on with what was answered; a refusal ends the call
abbrev pub bind : {A B : Type 0} → Res A → (A → Res B) → Res B
bind (ok a) f = f a
bind (refuse n) f = refuse n

-- an answer without its value: whether it is good, or the refusal
abbrev pub whether : {A : Type 0} → Res A → Res (Unit {0})
whether x = bind x λ _. ok tt

-- refuse with n when the test holds
abbrev pub guard : {A : Type 0} → Bool → ℕ → Res A → Res A
guard true n k = refuse n
guard false n k = k

-- the same in the words of the refusal table: `n when test else` what follows
abbrev pub ◌when◌else◌ : {A : Type 0} → ℕ → Bool → Res A → Res A
n when test else k = guard test n k
