use mathlib.Core.Path.{◌≡◌}
use native.Mathlib.Omega.{arith}
use Rattle.layout_v1.proofs.Laws.Check.{checking-start, checking-over}
use Rattle.block_check_v1.proofs.check_rows.Goals as goal

pub loop-r-init : goal.loop-r-init
loop-r-init c = checking-start _ _

pub returns : goal.returns
returns c =
    let h = c.loop-r.auto.r-end in
    let g = c.loop-r-test.false in
    let n : c.loop-r.r ≡ c.args.t.count = omega arith in
    rw n at (checking-over _ _ _ _ _ _ _ _ c.loop-r.invariant c.loop-r-test.false)
