-- `walk_rest` ends whatever walk is under way: at the end of the last region at once, else with bytes for every key, so that nothing stops it.
use Rattle.std.proofs.Common.{refl, ap}
use Rattle.std.specs.Prelude.{Ok}
use Rattle.basics.specs.Answers.{handed-on}
use Rattle.compare_walks.specs.Says.{walk_from}
use Rattle.compare_walks.proofs.Laws.{walking_done, goes_as, stops-on}
use Rattle.compare_walks.proofs.walk_rest.Goals as goal

pub returns-then-is_over : goal.returns-then-is_over
returns-then-is_over c =
    λ want w. walking_done _ _ _ _ _ w c.requires.1 (c.is_over.ensures c.if-is_over.true c.args.carried.now)

pub returns-in_err-went : goal.returns-in_err-went
returns-in_err-went c =
    λ want w. handed-on walk_from _ _ c.from_residual.ensures.1 (c.in_err-went.ensures.0 want w)

pub returns-in_default : goal.returns-in_default
returns-in_default c = absurd ((stops-on _ _ c.in_ok-went.ensures.1 (ap Ok c.in_default.is)).1 refl)

pub returns : goal.returns
returns c = goes_as _ _ _ _ _ c.in_ok-went.ensures.0 (ap Ok c.in-Over.is)
