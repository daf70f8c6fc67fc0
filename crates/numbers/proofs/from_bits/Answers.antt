-- `from_bits` gives the number whose bits it is given: std's cast is the definition's, with the top bit set and without.
use Prim.Native.Nat.{ℕ, suc, ◌-◌, ◌<◌, ◌^◌}
use mathlib.Core.Path.{◌≡◌, sym, ap, ◌∙◌}
use mathlib.Core.Logic.{⊎_elim}
use native.Mathlib.Omega.{arith}
use lib.IntN.{ℤ}
use mir.Syntax.{w64}
use mir.Val.{to_z, of_z}
use mir.Facts.{to_z_pos, to_z-neg, to_z-of_z, sfits_to_z}
use Rattle.layout.specs.Fixed.{unbits}
use Rattle.layout.proofs.Laws.Fixed.{unbits-low, unbits-high}
use Rattle.layout.proofs.Laws.Res.{ltb-cases}
use Rattle.numbers.proofs.from_bits.Goals as goal

cast : (n : ℕ) → n < 2 ^ 64 → to_z w64 n ≡ unbits n
cast n f =
    ⊎_elim
    (λ low. to_z_pos w64 {n = n} low.1 ∙ sym (unbits-low n low.1))
    (λ high.
    let back : n ≡ 2 ^ 64 - suc (2 ^ 64 - suc n) = omega arith in
    ap (to_z w64) back ∙ to_z-neg w64 (2 ^ 64 - suc n) (omega (arith, high.1)) ∙ sym (unbits-high n high.1))
    (ltb-cases n (2 ^ 63))

pub returns : goal.returns
returns c = ap (λ (z : ℤ). to_z w64 (of_z w64 z)) c.cast_signed.ensures ∙ to_z-of_z (sfits_to_z c.ranges.n) ∙ cast c.args.n c.ranges.n.fits
