use mathlib.Core.Path.{refl, sym, ◌∙◌}
use native.Mathlib.Omega.{arith}
use Rattle.layout.proofs.Laws.Key.{compare-ended, compare-short, compare-long, compare-less, compare_greater, compare-more}
use Rattle.keys.proofs.compare.Goals as goal

pub loop-i-init : goal.loop-i-init
loop-i-init c = refl

pub returns-then-b-i : goal.returns-then-b-i
returns-then-b-i c = sym (compare-long _ _ _ c.loop-i-test.true c.if-b-i.true) ∙ c.loop-i.invariant

pub returns-then-a-i : goal.returns-then-a-i
returns-then-a-i c =
    sym (compare-less _ _ _ c.loop-i-test.true c.if-b-i.false c.if-a-i.true) ∙ c.loop-i.invariant

pub returns-then-b-i-2 : goal.returns-then-b-i-2
returns-then-b-i-2 c =
    sym (compare_greater _ _ _ c.loop-i-test.true c.if-b-i.false c.if-b-i-2.true) ∙ c.loop-i.invariant

pub loop-i-preserved : goal.loop-i-preserved
loop-i-preserved c =
    sym (compare-more _ _ _ c.loop-i-test.true c.if-b-i.false c.if-a-i.false c.if-b-i-2.false) ∙ c.loop-i.invariant

pub returns-then-a-b : goal.returns-then-a-b
returns-then-a-b c = sym (compare-short _ _ _ c.loop-i-test.false (omega arith)) ∙ c.loop-i.invariant

pub returns-else-a-b : goal.returns-else-a-b
returns-else-a-b c = sym (compare-ended _ _ _ c.loop-i-test.false (omega arith)) ∙ c.loop-i.invariant
