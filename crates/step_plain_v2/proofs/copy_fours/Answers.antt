-- `copy_fours` keeps its promise: the first four bytes and the last, which overlap, are all (`parts`).
use native.Mathlib.Omega.{arith}
use mathlib.Core.Path.{◌≡◌}
use Prim.Native.Nat.{◌+◌, ◌-◌}
use Rattle.step_plain_v2.proofs.Copies.{parts}
use Rattle.step_plain_v2.proofs.copy_fours.Goals as goal

pub returns : goal.returns
returns c = let a = c.args in
    let m : a.n - 4 + 4 ≡ a.n = omega (arith, c.requires.0) in
    rw m at (parts a.src.now a.from a.buf.now a.at 4 (a.n - 4) 4 c.copy_4.ensures c.copy_4-2.ensures (omega (arith, c.requires)) (omega arith) (omega (arith, c.requires)) (omega (arith, c.requires)))
