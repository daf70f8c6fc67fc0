use Prim.Native.Nat.{◌+◌, ◌-◌, ◌≤◌, ◌<◌}
use mathlib.Core.Path.{◌≡◌, refl, ◌∙◌}
use native.Mathlib.Numerals.{add-one}
use native.Mathlib.Nat.{add-zero}
use native.Mathlib.Omega.{arith}
use lib.ListN.{length, length-set}
use Rattle.layout.specs.Fixed.{big}
use Rattle.layout.proofs.Laws.Byte.{big-none, big-step}
use Rattle.layout.proofs.Laws.Fixed.{length-big}
use Rattle.layout.proofs.Laws.Splice.{sets-splice}
use Rattle.buf_mut.proofs.Laws.{puts-short, puts-wrote}
use Rattle.buf_mut.proofs.put_be.Goals as goal

pub returns-then-rest_from-n : goal.returns-then-rest_from-n
returns-then-rest_from-n c =
    let a = c.args in
    puts-short _ _ _ (omega (arith, length-big a.n a.v))

pub loop-i-init : goal.loop-i-init
loop-i-init c =
    let all : c.args.n - 0 ≡ c.args.n = omega arith in
    (rw (add-zero c.args.at, all) refl, refl)

pub overflow_mul-buf : goal.overflow_mul-buf
overflow_mul-buf c = omega (arith, c.requires)

pub overflow_shr-buf : goal.overflow_shr-buf
overflow_shr-buf c = omega (arith, c.requires)

pub loop-i-preserved : goal.loop-i-preserved
loop-i-preserved c =
    let l = c.loop-i in
    let v = c.args.v in
    let left : 0 < c.args.n - l.i = omega arith in
    let less : c.args.n - l.i - 1 ≡ c.args.n - (l.i + 1) = omega arith in
    let next : c.args.at + l.i + 1 ≡ c.args.at + (l.i + 1) = omega arith in
    (rw (← less, ← next) (rw (add-one (c.args.at + l.i)) (rw (big-step (c.args.n - l.i) v left) at l.invariant.0)), rw length-set l.invariant.1)

pub shape_of-buf : goal.shape_of-buf
shape_of-buf c = c.loop-i.invariant.1

pub returns : goal.returns
returns c =
    let l = c.loop-i in
    let a = c.args in
    let none : a.n - l.i ≡ 0 = omega arith in
    let fits : a.at + length (big a.n a.v) ≤ length a.buf.now = omega (arith, length-big a.n a.v) in
    puts-wrote (record {
      is = (rw (none, big-none a.v) at l.invariant.0) ∙ sets-splice a.buf.now a.at (big a.n a.v) fits;
      next = omega (arith, length-big a.n a.v);
      room = omega (arith, length-big a.n a.v);
    })
