-- `has_region` keeps its promise: the definition's tests of the region's number and of a sum, made with no sum that may wrap.
-- A block too short for the count, or for the restarts, can't be the sum; otherwise both tests ask whether the same two numbers are equal.
use Prim.Native.Nat.{ℕ, ◌+◌, ◌-◌, ◌*◌, ◌/◌, ◌≤◌, ◌<◌}
use mathlib.Core.Path.{◌≡◌, refl, sym}
use mathlib.Core.Bool.{Bool, true, false, ◌&&◌, ◌||◌}
use mathlib.Core.Logic.{⊎_elim}
use native.Mathlib.Omega.{arith}
use lib.Dec.{ltb, leb, eqb}
use borrow.Author.Tests.{lt-ltb, le-ltb, lt-leb, ltb-false, leb-false, eq-eqb, ne_eqb}
use Rattle.layout.specs.Trailer.{trailer_is}
use Rattle.layout.proofs.Laws.Res.{ltb-cases, eqb-cases, clash}
use Rattle.layout.proofs.Laws.Plain.{or-false}
use Rattle.trailer.specs.Handed.{has_region}
use Rattle.trailer.proofs.has_region.Goals as goal

module _ (size count len r : ℕ) where
  no-sum : (size + (2 + 2 * count) ≡ len → ⊥) → false ≡ has_region len (trailer_is count size) r
  no-sum h = rw (ne_eqb (size + (2 + 2 * count)) len h) (none (ltb r count))
    where
      none : (p : Bool) → false ≡ (p && false)
      none true = refl
      none false = refl

  early : (ltb len 2 || leb count r) ≡ true → false ≡ has_region len (trailer_is count size) r
  early e =
      ⊎_elim
      (λ x. no-sum (λ s. omega (arith, x.1)))
      (λ x. ⊎_elim (λ y. absurd (clash e (rw (x.0, lt-leb count r y.1)))) (λ y. rw (le-ltb r count y.1)) (ltb-cases r count))
      (ltb-cases len 2)

  same_test : 2 ≤ len → r < count → count ≤ (len - 2) / 2 → eqb size (len - 2 - 2 * count) ≡ has_region len (trailer_is count size) r
  same_test h i k =
      rw (lt-ltb r count i)
      (⊎_elim
      (λ t. rw t.0 (sym (eq-eqb (size + (2 + 2 * count)) len (omega (arith, t.1)))))
      (λ t. rw t.0 (sym (ne_eqb (size + (2 + 2 * count)) len (λ e. t.1 (omega arith)))))
      (eqb-cases size (len - 2 - 2 * count)))

-- what the first test leaves
inside : (count len r : ℕ) → (ltb len 2 || leb count r) ≡ false → (2 ≤ len) × (r < count)
inside count len r e = let w = or-false {a = ltb len 2} {b = leb count r} e in (ltb-false len 2 w.0, leb-false count r w.1)

pub returns-then-len-t : goal.returns-then-len-t
returns-then-len-t c = let a = c.args in early a.t.size a.t.count a.len a.r c.if-len-t.true

pub overflow_sub-rest : goal.overflow_sub-rest
overflow_sub-rest c = let a = c.args in (inside a.t.count a.len a.r c.if-len-t.false).0

pub returns-then-rest-t : goal.returns-then-rest-t
returns-then-rest-t c =
    let a = c.args in
    no-sum a.t.size a.t.count a.len a.r (λ s. omega (arith, c.if-rest-t.true))

pub returns : goal.returns
returns c =
    let a = c.args in
    let w = inside a.t.count a.len a.r c.if-len-t.false in
    same_test a.t.size a.t.count a.len a.r w.0 w.1 (omega arith)
