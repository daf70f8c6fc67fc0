use Rattle.std.proofs.Common.{◌≡◌, ◌<◌, length, ap, ◌∙◌, arith}
use Rattle.std.specs.Prelude.{Ok, Err}
use Rattle.std.proofs.lemmas.Result.{err_from_is_err_and}
use Rattle.compare_walks.specs.Loop.{RunsOn, Goes}
use Rattle.compare_walks.proofs.Laws.{walking_whole, ends-then, runs_then, went_on, went_over, one_more}
use Rattle.compare_walks.proofs.walk_rows.Goals.{After-run_here-here, After-step_row, In_ok-went, Then-here-before}
use Rattle.compare_walks.proofs.walk_rows.Goals as goal

-- past the plain rows of a region
so_far : (h : After-run_here-here) → RunsOn h.args.block.now h.args.limit h.args.came h.args.carried.now h.run_here-here.result h.run_here-here.new.key
so_far h = runs_then h.loop-here.invariant.0 h.run_here-here.ensures

whole : (h : After-run_here-here) → length h.run_here-here.new.key ≡ length h.args.carried.now
whole h = h.run_here-here.auto.key ∙ h.loop-here.invariant.1

-- before a step
few : (n : Then-here-before) → n.run_here-here.result.rows < n.args.limit
few n = omega (arith, n.if-here-before.true, n.loop-here-test.true)

-- past it
made : (t : In_ok-went) → Goes t.args.block.now t.args.limit t.run_here-here.result t.run_here-here.new.key (Ok t.in_ok-went.went) t.step_row.new.carried
made t = t.in_ok-went.ensures.0 t.args.limit (omega (arith, t.if-here-before.true, t.loop-here-test.true))

carried-kept : (t : After-step_row) → length t.step_row.new.carried ≡ length t.args.carried.now
carried-kept t = t.step_row.auto.carried ∙ (t.run_here-here.auto.key ∙ t.loop-here.invariant.1)

out-kept : (t : After-step_row) → length t.step_row.new.out ≡ length t.args.out.now
out-kept t = t.step_row.auto.out ∙ t.loop-here.invariant.2

pub returns-then-out-ne-MAX_KEY : goal.returns-then-out-ne-MAX_KEY
returns-then-out-ne-MAX_KEY c = (so_far (goal.at.returns-then-out-ne-MAX_KEY c).After-run_here-here, (few (goal.at.returns-then-out-ne-MAX_KEY c).Then-here-before, λ e. c.if-out-ne-MAX_KEY.true (c.loop-here.invariant.2 ∙ e)))

pub step_row-requires : goal.step_row-requires
step_row-requires c =
    (whole (goal.at.step_row-requires c).After-run_here-here ∙ c.requires, c.if-out-ne-MAX_KEY.false, omega (arith, few (goal.at.step_row-requires c).Then-here-before))

pub returns-in_err-went : goal.returns-in_err-went
returns-in_err-went c =
    let p = err_from_is_err_and c.from_residual.result c.from_residual.ensures.1 in
    rw (p.1, p.2)
    (ends-then (so_far (goal.at.returns-in_err-went c).After-run_here-here) (Err _) (c.in_err-went.ensures.0 c.args.limit (few (goal.at.returns-in_err-went c).Then-here-before)), tt)

pub returns-in_default : goal.returns-in_default
returns-in_default c =
    went_over (so_far (goal.at.returns-in_default c).After-run_here-here) _ _ (made (goal.at.returns-in_default c).In_ok-went) _ (ap Ok c.in_default.is)

pub loop-here-smaller-then-here-before : goal.loop-here-smaller-then-here-before
loop-here-smaller-then-here-before c =
    omega (arith, one_more c.run_here-here.result c.in_ok-went.ensures.1 (ap Ok c.in-On.is), few (goal.at.loop-here-smaller-then-here-before c).Then-here-before, c.if-here-before.true)

pub loop-here-preserved-then-here-before : goal.loop-here-preserved-then-here-before
loop-here-preserved-then-here-before c =
    (went_on (so_far (goal.at.loop-here-preserved-then-here-before c).After-run_here-here) _ _ (made (goal.at.loop-here-preserved-then-here-before c).In_ok-went) (ap Ok c.in-On.is), carried-kept (goal.at.loop-here-preserved-then-here-before c).After-step_row, out-kept (goal.at.loop-here-preserved-then-here-before c).After-step_row)

pub returns : goal.returns
returns c = ((λ want w. walking_whole _ _ _ _ _ (c.loop-here.invariant.0.on want w) c.loop-here-test.false), tt)
