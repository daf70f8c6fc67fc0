use mathlib.Core.Path.{refl}
use native.Mathlib.Omega.{arith}
use Rattle.tally.proofs.Laws.{fold_start, fold-passed, fold-whole}
use Rattle.tally.proofs.tally_block.Goals as goal

pub loop-init : goal.loop-init
loop-init c = (fold_start c.args.t.now c.args.block.now c.open-opened.result c.open-opened.ensures (omega arith), refl, refl)

pub loop-preserved : goal.loop-preserved
loop-preserved c =
    let l = c.loop in (
      fold-passed _ _ _ _ _ _ l.invariant.0 (omega (arith, c.loop-test.true)) l.invariant.1 l.invariant.2 _ _ _ c.step-passed.ensures _ c.tally_row.ensures (omega (arith, c.loop-test.true)),
      c.type_inv.carried,
      c.type_inv.key,
    )

pub returns : goal.returns
returns c = fold-whole _ _ _ _ c.loop.invariant.0 (omega (arith, c.loop-test.false))
