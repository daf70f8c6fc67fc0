-- `put_i64` keeps its promise: the eight bytes of the number's bits, or 6 and an untouched buffer.
-- `put_be` writes the bits that `to_bits` gives, and these are the number's.
use mathlib.Core.Path.{ap, ◌∙◌}
use mir.Syntax.{w64}
use mir.Facts.{to_z-of_z}
use Rattle.layout.specs.Fixed.{bits}
use Rattle.buf_mut.proofs.put_i64.Goals as goal

pub returns : goal.returns
returns c =
    let same = c.to_bits.ensures ∙ ap bits (to_z-of_z {w = w64} c.ranges.z) in
    rw same at c.put_be.ensures
