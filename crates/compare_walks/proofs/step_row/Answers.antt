-- `step_row` keeps its promise: each case of the step is one law of the loop, from what `next_in_place` promised.
use Rattle.std.proofs.Common.{◌≡◌, length, refl, ap, ◌∙◌, arith}
use Rattle.std.specs.Prelude.{Ok}
use Rattle.std.proofs.lemmas.Result.{err_from_is_err_and}
use Rattle.layout.specs.Limits.{max_key}
use Rattle.row_decode_v2.specs.Says.{row_from}
use Rattle.place_v2.specs.Says.{view_in}
use Rattle.compare_walks.proofs.Steps.{Finds, moved-finds, moved_ends, moved-refuses}
use Rattle.compare_walks.proofs.Laws.{walking_done, walking_refused, walking_more}
use Rattle.compare_walks.proofs.step_row.Goals.{In-Found}
use Rattle.compare_walks.proofs.step_row.Goals as goal

-- the row that was found, and the bytes that its key went to
row-found : (k : In-Found) → Finds k.args.block.now (view_in k.args.here.place k.args.carried.now) (view_in k.in-Found.place k.next_in_place.new.key) k.in-Found.region k.in-Found.number (row_from k.in-Found.row) k.next_in_place.new.out
row-found k = moved-finds _ _ _ _ _ _ _ k.requires.0 k.requires.1 k.next_in_place.ensures (k.in_ok-place.was ∙ ap Ok k.in-Found.is)

long : (k : In-Found) → length k.next_in_place.new.out ≡ max_key
long k = k.next_in_place.auto.out ∙ k.requires.1

pub with_row-requires : goal.with_row-requires
with_row-requires c =
    let f = row-found (goal.at.with_row-requires c).In-Found in
    (f.some, omega (arith, f.fits, long (goal.at.with_row-requires c).In-Found), long (goal.at.with_row-requires c).In-Found)

pub returns-in-Found : goal.returns-in-Found
returns-in-Found c =
    let f = row-found (goal.at.returns-in-Found c).In-Found in
    ((λ limit few. record { most = omega arith; on = λ want w. walking_more _ _ _ _ _ w few _ _ _ _ f.is c.with_row.ensures }), refl)

pub returns-in-Done : goal.returns-in-Done
returns-in-Done c =
    ((λ limit few want w. walking_done _ _ _ _ _ w few (moved_ends _ _ _ _ _ _ _ c.requires.0 c.requires.1 c.next_in_place.ensures (c.in_ok-place.was ∙ ap Ok c.in-Done.is))), tt)

pub returns-in_err-place : goal.returns-in_err-place
returns-in_err-place c =
    let p = err_from_is_err_and c.from_residual.result c.from_residual.ensures.1 in
    rw (p.1, p.2)
    ((λ limit few want w. walking_refused _ _ _ _ _ w few (moved-refuses _ _ _ _ _ _ _ c.requires.0 c.requires.1 c.next_in_place.ensures c.in_err-place.was)), tt)
