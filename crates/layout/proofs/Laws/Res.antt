-- Answers taken apart: what a test tells, and what an answer that came through tells of each part that it came through.
use Rattle.std.specs.Prelude.{ℕ, zero, suc, ◌<◌, ◌≤◌, ◌≡◌, refl, Bool, true, false, cond, ◌⊎◌, ltb, eqb}
use Rattle.std.proofs.Common.{ap, sym, inl, inr, arith, ltb-true, ltb-false, eqb-true}
use Rattle.std.proofs.lemmas.Bool.{eqb-false}
use Rattle.layout.specs.Res.{Res, ok, refuse, bind, whether, guard}

-- what a test tells, both ways
pub ltb-cases : (a b : ℕ) → ((ltb a b ≡ true) × (a < b)) ⊎ ((ltb a b ≡ false) × (b ≤ a))
ltb-cases a b = go (ltb a b) refl
  where
    go : (t : Bool) → ltb a b ≡ t → ((ltb a b ≡ true) × (a < b)) ⊎ ((ltb a b ≡ false) × (b ≤ a))
    go true e = inl (e, ltb-true a b e)
    go false e = inr (e, ltb-false a b e)

pub eqb-cases : (a b : ℕ) → ((eqb a b ≡ true) × (a ≡ b)) ⊎ ((eqb a b ≡ false) × (a ≡ b → ⊥))
eqb-cases a b = go (eqb a b) refl
  where
    go : (t : Bool) → eqb a b ≡ t → ((eqb a b ≡ true) × (a ≡ b)) ⊎ ((eqb a b ≡ false) × (a ≡ b → ⊥))
    go true e = inl (e, eqb-true a b e)
    go false e = inr (e, eqb-false a b e)

-- cases on any test, with its value
pub bool_cases : (t : Bool) → (t ≡ true) ⊎ (t ≡ false)
bool_cases true = inl refl
bool_cases false = inr refl

-- an answer that came through has come through each part
pub bind_ok : {A B : Type 0} (x : Res A) (f : A → Res B) (b : B) → bind x f ≡ ok b → (a : A) × (x ≡ ok a) × (f a ≡ ok b)
bind_ok (ok a) f b e = (a, refl, e)
bind_ok (refuse n) f b e = absurd (let z : ◌≡◌ {A = ℕ} 0 1 = cc in omega arith)

pub ok-inj : {A : Type 0} {a b : A} → ok a ≡ ok b → a ≡ b
ok-inj e = cc

pub refuse-inj : {A : Type 0} {m n : ℕ} → ◌≡◌ {A = Res A} (refuse m) (refuse n) → m ≡ n
refuse-inj e = cc

pub guard_ok : {A : Type 0} (t : Bool) (n : ℕ) (k : Res A) (a : A) → guard t n k ≡ ok a → (t ≡ false) × (k ≡ ok a)
guard_ok true n k a e = absurd (let z : ◌≡◌ {A = ℕ} 0 1 = cc in omega arith)
guard_ok false n k a e = (refl, e)

pub cond-ok : {A : Type 0} (t : Bool) (x y : Res A) (a : A) → cond t x y ≡ ok a → ((t ≡ true) × (x ≡ ok a)) ⊎ ((t ≡ false) × (y ≡ ok a))
cond-ok true x y a e = inl (refl, e)
cond-ok false x y a e = inr (refl, e)

-- the same, handing the parts on: what a λ binds is a variable, and `rw` by its equation does not meet how it was found
pub bind-then : {A B C : Type 0} (x : Res A) (f : A → Res B) (b : B) → bind x f ≡ ok b → ((a : A) → x ≡ ok a → f a ≡ ok b → C) → C
bind-then (ok a) f b e k = k a refl e
bind-then (refuse n) f b e k = absurd (let z : ◌≡◌ {A = ℕ} 0 1 = cc in omega arith)

pub guard-then : {A C : Type 0} (t : Bool) (n : ℕ) (x : Res A) (a : A) → guard t n x ≡ ok a → (t ≡ false → x ≡ ok a → C) → C
guard-then true n x a e k = absurd (let z : ◌≡◌ {A = ℕ} 0 1 = cc in omega arith)
guard-then false n x a e k = k refl e

-- an answer handed on
pub handed : {A B : Type 0} {x : Res A} {n : ℕ} (f : A → Res B) → x ≡ refuse n → refuse n ≡ bind x f
handed f e = rw e

-- an answer that is told only whether it is good, with its value beside it; or that is told to be refused
pub whether-good : {A : Type 0} (want : Res A) (v : A) → whether want ≡ ok tt → ((a : A) → want ≡ ok a → v ≡ a) → want ≡ ok v
whether-good (ok a) v s is = ap ok (sym (is a refl))
whether-good (refuse n) v s is = absurd (let z : ◌≡◌ {A = ℕ} 0 1 = cc in omega arith)

pub whether-refused : {A : Type 0} (want : Res A) (n : ℕ) → whether want ≡ refuse n → want ≡ refuse n
whether-refused (ok a) n s = absurd (let z : ◌≡◌ {A = ℕ} 0 1 = cc in omega arith)
whether-refused (refuse k) n s = let same : k ≡ n = cc in ap refuse same

-- a test has one value
pub clash : {b : Bool} → b ≡ true → b ≡ false → ⊥
clash p q = let z : ◌≡◌ {A = ℕ} 0 1 = cc in omega arith

-- a fold that has steps left: one of them is taken, and the rest makes the same whole
pub spend : {A B : Type 0} (fold : ℕ → A) {whole : A} (left : ℕ) → (left ≡ 0 → ⊥) → fold left ≡ whole → ((more : ℕ) → left ≡ suc more → fold (suc more) ≡ whole → B) → B
spend fold zero some makes k = absurd (some refl)
spend fold (suc more) some makes k = k more refl makes
