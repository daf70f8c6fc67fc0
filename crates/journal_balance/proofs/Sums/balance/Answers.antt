-- `Sums::balance` gives the difference: both numbers are small, so neither the casts nor the difference lose a bit.
use Prim.Native.Nat.{ℕ, zero, suc, ◌-◌, ◌^◌, ◌<◌}
use mathlib.Core.Path.{◌≡◌, sym, ◌∙◌, subst}
use mathlib.Core.Bool.{Bool, true, false, cond}
use native.Mathlib.Omega.{arith}
use lib.Dec.{ltb}
use lib.IntN.{pos, negsuc, ◌-ℤ◌}
use lib.Signed.{mag}
use mir.Syntax.{w64}
use mir.Val.{SFits, to_z}
use mir.Facts.{to_z-of_z, to_z_pos}
use Rattle.journal_balance.proofs.Sums.balance.Goals as goal

small : (a b : ℕ) → a < 2 ^ 49 → b < 2 ^ 49 → SFits w64 (pos a -ℤ pos b)
small a zero h k = record { sfits = omega arith }
small a (suc b) h k = record { sfits = go (ltb a (suc b)) }
  where
    go : (t : Bool) → mag (cond t (negsuc (suc b - suc a)) (pos (a - suc b))) < 2 ^ 63
    go true = omega arith
    go false = omega arith

same : (a b : ℕ) → a < 2 ^ 49 → b < 2 ^ 49 → to_z w64 a -ℤ to_z w64 b ≡ pos a -ℤ pos b
same a b h k = rw (to_z_pos w64 {n = a} (omega arith), to_z_pos w64 {n = b} (omega arith))

fits : (a b : ℕ) → a < 2 ^ 49 → b < 2 ^ 49 → SFits w64 (to_z w64 a -ℤ to_z w64 b)
fits a b h k = subst (SFits w64) (sym (same a b h k)) (small a b h k)

pub overflow_sub-result : goal.overflow_sub-result
overflow_sub-result c = fits _ _ c.requires.0 c.requires.1

pub returns : goal.returns
returns c = to_z-of_z (fits _ _ c.requires.0 c.requires.1) ∙ same _ _ c.requires.0 c.requires.1
