-- `to_bits` gives the bits of the number: std's cast is the definition's, at 0 or above and below.
use mathlib.Core.Path.{◌≡◌, sym, ap, ◌∙◌}
use lib.IntN.{ℤ, pos, negsuc}
use mir.Syntax.{w64}
use mir.Val.{of_z}
use mir.Facts.{to_z-of_z}
use Rattle.layout.specs.Fixed.{bits}
use Rattle.layout.proofs.Laws.Byte.{bits_pos, bits-neg}
use Rattle.numbers.proofs.to_bits.Goals as goal

cast : (z : ℤ) → of_z w64 z ≡ bits z
cast (pos n) = sym (bits_pos n)
cast (negsuc n) = sym (bits-neg n)

pub returns : goal.returns
returns c = c.cast_unsigned.ensures ∙ ap (of_z w64) (to_z-of_z c.ranges.z) ∙ cast c.args.z
