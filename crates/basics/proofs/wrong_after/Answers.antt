-- `wrong_after` tells a number that can't be: 0 is wrong past the region's start, and another where twelve times as many bytes are more than were passed, which is
-- to say that it is above their twelfth.
use Prim.Native.Nat.{ℕ, ◌*◌, ◌/◌}
use mathlib.Core.Path.{◌≡◌}
use mathlib.Core.Bool.{Bool, true, false, ◌&&◌, ◌||◌}
use mathlib.Core.Logic.{⊎_elim}
use native.Mathlib.Omega.{arith}
use lib.Dec.{ltb}
use borrow.Author.Tests.{lt-ltb, le-ltb, ne_eqb}
use Rattle.layout.specs.Number.{wrong_after}
use Rattle.layout.proofs.Laws.Res.{ltb-cases}
use Rattle.basics.proofs.wrong_after.Goals as goal

none : (passed n : ℕ) → n ≡ 0 → ltb 0 passed ≡ wrong_after passed n
none passed n z =
    ⊎_elim
    (λ t. rw (z, t.0))
    (λ t. rw (z, t.0, le-ltb passed 0 (omega arith)))
    (ltb-cases 0 passed)

some : (passed n : ℕ) → (n ≡ 0 → ⊥) → ltb (passed / 12) n ≡ wrong_after passed n
some passed n z =
    ⊎_elim
    (λ t. rw (t.0, ne_eqb n 0 z) (over (ltb 0 passed) (lt-ltb passed (12 * n) (omega (arith, t.1)))))
    (λ t. rw (t.0, ne_eqb n 0 z) (over (ltb 0 passed) (le-ltb passed (12 * n) (omega (arith, t.1)))))
    (ltb-cases (passed / 12) n)
  where
    over : (b : Bool) {x y : Bool} → y ≡ x → x ≡ ((b && false) || y)
    over true e = rw e
    over false e = rw e

pub returns-then-number-eq0 : goal.returns-then-number-eq0
returns-then-number-eq0 c = none c.args.passed c.args.number c.if-number-eq0.true

pub returns : goal.returns
returns c = some c.args.passed c.args.number c.if-number-eq0.false
