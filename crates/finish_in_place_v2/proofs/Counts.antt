-- Restarts counted by a product: they are as many as rows divided by interval, rounded up, where their intervals hold all rows and all but the last are full; and the next row
-- is a restart where all are full. Both by the one number of intervals for which this is so (`only`).
use Prim.Native.Nat.{ℕ, ◌+◌, ◌-◌, ◌*◌, ◌/◌, ◌%◌, ◌≤◌, ◌<◌}
use mathlib.Core.Path.{◌≡◌, refl, ap, sym, ◌∙◌}
use mathlib.Core.Bool.{Bool, true, false, not}
use mathlib.Core.Logic.{⊎_elim}
use native.Mathlib.Omega.{arith}
use native.Mathlib.Nat.{div-add-mod', mod-lt, mul_comm, mul-mod_right, mul-le-mul}
use lib.Arith.{digits_div}
use lib.Dec.{leb, eqb}
use borrow.Author.Tests.{eq-eqb, ne_eqb, eqb-true, leb-true, leb-false}
use Rattle.layout.specs.Limits.{max_interval, max_restarts}
use Rattle.layout.specs.Block.{is_restart}
use Rattle.layout.specs.Builder.{restarts_of}
use Rattle.layout.proofs.Laws.Res.{eqb-cases, bool_cases}

-- no product here wraps
pub product_small : {a b : ℕ} → a ≤ max_restarts → b ≤ max_interval → a * b ≤ max_restarts * max_interval
product_small h k = mul-le-mul h k

module _ (rows n : ℕ) (some : 1 ≤ n) where
  bounds : (rows ≤ restarts_of rows n * n) × (restarts_of rows n * n < rows + n)
  bounds =
      let q = (rows + (n - 1)) / n in
      let split : q * n + (rows + (n - 1)) % n ≡ rows + (n - 1) = div-add-mod' (rows + (n - 1)) n in
      let low : (rows + (n - 1)) % n < n = mod-lt (rows + (n - 1)) some in
      (omega (arith, split, low), omega (arith, split, low))

  only : (k : ℕ) → rows ≤ k * n → k * n < rows + n → k ≡ restarts_of rows n
  only k h l =
      let is : rows + (n - 1) ≡ k * n + (rows + (n - 1) - k * n) = omega arith in
      sym (ap (λ (x : ℕ). x / n) is ∙ digits_div k {m = n} {r = rows + (n - 1) - k * n} (omega arith))

  module _ (restarts : ℕ) where
    pub miscounts : restarts * n < rows → true ≡ not (eqb restarts (restarts_of rows n))
    miscounts h = rw (ne_eqb restarts (restarts_of rows n) (λ e. let b = bounds.0 in omega (arith, b, ap (λ (x : ℕ). x * n) e)))

    pub counts : rows ≤ restarts * n → leb n (restarts * n - rows) ≡ not (eqb restarts (restarts_of rows n))
    counts h =
        ⊎_elim
        (λ t. let k = leb-true n (restarts * n - rows) t in
        t ∙ sym (rw (ne_eqb restarts (restarts_of rows n) (λ e. let b = bounds.1 in omega (arith, b, k, ap (λ (x : ℕ). x * n) e)))))
        (λ t. let k = leb-false n (restarts * n - rows) t in t ∙ sym (rw (eq-eqb restarts (restarts_of rows n) (only restarts h (omega (arith, k))))))
        (bool_cases (leb n (restarts * n - rows)))

    -- so the rows are few
    pub rows-held : restarts ≡ restarts_of rows n → rows ≤ restarts * n
    rows-held c = omega (arith, bounds.0, ap (λ (x : ℕ). x * n) c)

    pub at-restart : restarts ≡ restarts_of rows n → eqb rows (restarts * n) ≡ is_restart n rows
    unfolding is_restart
    at-restart c =
        ⊎_elim (λ t. t.0 ∙ sym (eq-eqb (rows % n) 0 (ap (λ (x : ℕ). x % n) (t.1 ∙ mul_comm restarts n) ∙ mul-mod_right n restarts)))
        (λ t. t.0 ∙ sym (ne_eqb (rows % n) 0 (λ z. t.1 (full z))))
        (eqb-cases rows (restarts * n))
      where
        full : rows % n ≡ 0 → rows ≡ restarts * n
        full z =
            let split : rows / n * n + rows % n ≡ rows = div-add-mod' rows n in
            let is = only (rows / n) (omega (arith, split, z)) (omega (arith, split, z)) in
            omega (arith, split, z, ap (λ (x : ℕ). x * n) (is ∙ sym c))

-- what the judge of a state makes of it
pub miscounted_not : {r : Bool} (a b : ℕ) → r ≡ not (eqb a b) → r ≡ true → a ≡ b → ⊥
miscounted_not a b e t q =
    let f : true ≡ not (eqb a b) = sym t ∙ e in
    let g : true ≡ false = rw (eq-eqb a b q) at f in
    let z : ◌≡◌ {A = ℕ} 0 1 = cc in omega arith

pub counted_is : {r : Bool} (a b : ℕ) → r ≡ not (eqb a b) → r ≡ false → a ≡ b
counted_is a b e t = eqb-true a b (was (eqb a b) (sym e ∙ t))
  where
    was : (x : Bool) → not x ≡ false → x ≡ true
    was true q = refl
    was false q = cc
