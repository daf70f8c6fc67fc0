use mathlib.Core.Path.{refl, ap, ◌∙◌}
use Rattle.std.specs.Prelude.{Ok}
use Rattle.block_check_v2.specs.Laws.{leaves_as, stands-first, stands-over}
use Rattle.block_check_v2.proofs.check_rows.Goals as goal

pub loop-p-init : goal.loop-p-init
loop-p-init c = (refl, stands-first _ _ c.requires.block_value c.requires.t_value _)

pub loop-p-preserved : goal.loop-p-preserved
loop-p-preserved c =
    let l = leaves_as _ _ c.loop-p.p _ c.in_ok-passed.ensures (ap Ok c.in-Some.is) in
    (c.check_region.auto.key ∙ c.loop-p.invariant.0, l.1)

pub returns : goal.returns
returns c = stands-over _ _ _ _ c.loop-p.invariant.1 c.loop-p-test.false
