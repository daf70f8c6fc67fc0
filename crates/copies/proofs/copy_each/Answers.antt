use Prim.Native.Nat.{ℕ, suc, ◌+◌}
use mathlib.Core.Path.{◌≡◌, refl, ap, ◌∙◌}
use native.Mathlib.Omega.{arith}
use lib.ListN.{length-set, drop_of_length-le}
use lib.Seq.{sets, drop-cons}
use Rattle.layout.proofs.Laws.Splice.{sets-splice}
use Rattle.copies.proofs.copy_each.Goals as goal

pub loop-i-init : goal.loop-i-init
loop-i-init c =
    let a = c.args in
    (ap (λ (k : ℕ). sets a.buf.now k a.src.now) (omega arith), refl)

pub loop-i-preserved : goal.loop-i-preserved
loop-i-preserved c =
    let l = c.loop-i in
    let a = c.args in
    let next : a.at + (l.i + 1) ≡ suc (a.at + l.i) = omega arith in
    let one : l.i + 1 ≡ suc l.i = omega arith in (
      rw (next, one) (rw (drop-cons a.src.now l.i 0 c.loop-i-test.true) at l.invariant.0),
      rw length-set l.invariant.1,
    )

pub shape_of-buf : goal.shape_of-buf
shape_of-buf c = c.loop-i.invariant.1

pub returns : goal.returns
returns c =
    let l = c.loop-i in
    (rw (drop_of_length-le c.args.src.now c.loop-i-test.false) at l.invariant.0) ∙ sets-splice c.args.buf.now c.args.at c.args.src.now c.requires
