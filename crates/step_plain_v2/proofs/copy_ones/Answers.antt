-- `copy_ones` keeps its promise: of one, two or three bytes the first, the one in the middle and the last are
-- all (`parts`, twice).
use native.Mathlib.Omega.{arith}
use mathlib.Core.Path.{◌≡◌}
use Prim.Native.Nat.{◌+◌, ◌-◌, ◌/◌}
use Rattle.step_plain_v2.proofs.Copies.{parts}
use Rattle.step_plain_v2.proofs.copy_ones.Goals as goal

pub returns : goal.returns
returns c = let a = c.args in
    let m : a.n - 1 + 1 ≡ a.n = omega (arith, c.requires.0) in
    let two = parts a.src.now a.from a.buf.now a.at 1 (a.n / 2) 1 c.copy_1.ensures c.copy_1-2.ensures (omega (arith, c.requires)) (omega arith) (omega (arith, c.requires)) (omega (arith, c.requires)) in
    rw m at (parts a.src.now a.from a.buf.now a.at (a.n / 2 + 1) (a.n - 1) 1 two c.copy_1-3.ensures (omega (arith, c.requires)) (omega (arith, c.requires)) (omega (arith, c.requires)) (omega (arith, c.requires)))
