-- `both_eights` keeps its promise: in either buffer the first eight bytes and the last, which overlap, are all (`parts`).
use native.Mathlib.Omega.{arith}
use mathlib.Core.Path.{◌≡◌}
use Prim.Native.Nat.{◌+◌, ◌-◌}
use Rattle.step_plain_v2.proofs.Copies.{parts}
use Rattle.step_plain_v2.proofs.both_eights.Goals as goal

pub returns : goal.returns
returns c =
    let a = c.args in
    let one = c.both_8.ensures in
    let two = c.both_8-2.ensures in
    let m : a.n - 8 + 8 ≡ a.n = omega (arith, c.requires.0) in (
      rw m at (parts a.src.now a.from a.key.now a.at 8 (a.n - 8) 8 one.0 two.0 (omega (arith, c.requires)) (omega arith) (omega (arith, c.requires)) (omega (arith, c.requires))),
      rw m at (parts a.src.now a.from a.out.now a.at 8 (a.n - 8) 8 one.1 two.1 (omega (arith, c.requires)) (omega arith) (omega (arith, c.requires)) (omega (arith, c.requires))),
    )
