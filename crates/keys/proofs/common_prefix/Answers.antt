use native.Mathlib.Omega.{arith}
use Rattle.layout.proofs.Laws.Key.{common-ended, common-over, common_differs, common-more}
use Rattle.keys.proofs.common_prefix.Goals as goal

pub loop-n-init : goal.loop-n-init
loop-n-init c = c.common_groups-n.ensures

pub returns-then-b-n : goal.returns-then-b-n
returns-then-b-n c =
    let l = c.loop-n in
    let x = c.args in
    omega (arith, common-over x.a.now x.b.now l.n c.if-b-n.true, l.invariant)

pub returns-then-a-n : goal.returns-then-a-n
returns-then-a-n c =
    let l = c.loop-n in
    let x = c.args in
    omega (arith, common_differs x.a.now x.b.now l.n c.loop-n-test.true c.if-b-n.false c.if-a-n.true, l.invariant)

pub loop-n-preserved : goal.loop-n-preserved
loop-n-preserved c =
    let l = c.loop-n in
    let x = c.args in
    omega (arith, common-more x.a.now x.b.now l.n c.loop-n-test.true c.if-b-n.false c.if-a-n.false, l.invariant)

pub returns : goal.returns
returns c =
    let l = c.loop-n in
    let x = c.args in
    omega (arith, common-ended x.a.now x.b.now l.n c.loop-n-test.false, l.invariant)
