-- `wrong_here` keeps its promise: a number that is at most a sixteenth of the bytes passed is at most their twelfth; of any other it answers
-- what `wrong_after` does.
use Prim.Native.Nat.{ℕ, ◌≤◌, ◌*◌, ◌/◌}
use mathlib.Core.Path.{◌≡◌}
use mathlib.Core.Bool.{Bool, true, false, ◌&&◌, ◌||◌}
use native.Mathlib.Omega.{arith}
use lib.Dec.{ltb}
use borrow.Author.Tests.{le-ltb, ne_eqb}
use Rattle.layout.specs.Number.{wrong_after}
use Rattle.step_plain_v2.proofs.wrong_here.Goals as goal

over : (b : Bool) {x y : Bool} → y ≡ x → x ≡ ((b && false) || y)
over true e = rw e
over false e = rw e

few : (passed n : ℕ) → (n ≡ 0 → ⊥) → n ≤ passed / 16 → false ≡ wrong_after passed n
few passed n z h = rw (ne_eqb n 0 z) (over (ltb 0 passed) (le-ltb passed (12 * n) (omega (arith, h))))

pub returns-then-number-passed : goal.returns-then-number-passed
returns-then-number-passed c = few c.args.passed c.args.number c.if-number-eq0.false c.if-number-passed.true
