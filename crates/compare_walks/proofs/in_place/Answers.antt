-- The walk in place keeps the promise of the private walks: one is under way from the start, and is ended by its plain rows or by the rest.
use Rattle.std.proofs.Common.{ap}
use Rattle.std.specs.Prelude.{Ok}
use Rattle.basics.specs.Answers.{handed-on}
use Rattle.compare_walks.specs.Says.{walk_from}
use Rattle.compare_walks.proofs.Laws.{walking_start, goes_as}
use Rattle.compare_walks.proofs.in_place.Goals as goal

pub returns-in-On : goal.returns-in-On
returns-in-On c = c.walk_rest.ensures _ ((goes_as _ _ _ _ _ c.in_ok-here.ensures.0 (ap Ok c.in-On.is)).on _ (walking_start _ _ _))

pub returns-in-Over : goal.returns-in-Over
returns-in-Over c = goes_as _ _ _ _ _ c.in_ok-here.ensures.0 (ap Ok c.in-Over.is) _ (walking_start _ _ _)

pub returns-in_err-here : goal.returns-in_err-here
returns-in_err-here c =
    handed-on walk_from _ _ c.from_residual.ensures.1 (c.in_err-here.ensures.0 _ (walking_start _ _ _))
