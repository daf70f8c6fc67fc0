use native.Mathlib.Omega.{arith}
use Rattle.layout.proofs.Laws.MatchWalk.{SpanTells, span-tells}
use Rattle.layout.proofs.Laws.Number.{counting-start}
use Rattle.row_span_v2.specs.Promise.{span_from}
use Rattle.block_regions_v2.specs.Climb.{climbing_start, climbing_over, climbing_stop, climbing_more}
use Rattle.trailer.specs.Says.{region_from}
use Rattle.block_regions_v2.specs.Parts.{Halts}
use Rattle.block_regions_v2.specs.Count.{counting-span}
use Rattle.block_regions_v2.specs.Laws.{handed-promise, halts_no, halts_there}
use Rattle.block_regions_v2.proofs.walk_place.Goals.{In_ok-row}
use Rattle.block_regions_v2.proofs.walk_place.Goals as goal

-- what the row that a turn read tells
tells : (k : In_ok-row) → let a = k.args in
    SpanTells a.data.now k.loop-at.at a.region.end k.loop-at.len (span_from k.in_ok-row.row)
tells k = span-tells _ _ _ _ _ _ k.in_ok-row.ensures

pub loop-at-init : goal.loop-at-init
loop-at-init c = (climbing_start _ _ _ _ c.requires, counting-start _ _)

pub returns-in_err-row : goal.returns-in_err-row
returns-in_err-row c =
    let v = c.loop-at.invariant in
    handed-promise (Halts c.args.data.now (region_from c.args.region) c.args.target.now) _ _ c.from_residual.ensures.1 (halts_no _ _ _ _ _ _ _ _ _ v.0 v.1 c.loop-at-test.true _ c.in_err-row.ensures)

pub overflow_add-end : goal.overflow_add-end
overflow_add-end c = omega (arith, (tells (goal.at.overflow_add-end c).In_ok-row).suffix)

pub slice_bounds-match_up-end : goal.slice_bounds-match_up-end
slice_bounds-match_up-end c = (tells (goal.at.slice_bounds-match_up-end c).In_ok-row).suffix

pub returns-then-not-now : goal.returns-then-not-now
returns-then-not-now c = let v = c.loop-at.invariant in halts_there _ _ _ _ _ _ _ _ _ v.0 v.1 (climbing_stop _ _ _ _ _ _ _ _ _ v.0 c.loop-at-test.true _ c.in_ok-row.ensures c.match_up-now.ensures.below-is c.if-not-now.true) c.halt.ensures

pub overflow_add-len : goal.overflow_add-len
overflow_add-len c = omega (arith, (tells (goal.at.overflow_add-len c).In_ok-row).few)

pub overflow_add-number : goal.overflow_add-number
overflow_add-number c = omega (arith, (tells (goal.at.overflow_add-number c).In_ok-row).least, (tells (goal.at.overflow_add-number c).In_ok-row).inside, c.loop-at.invariant.1.far)

pub loop-at-smaller : goal.loop-at-smaller
loop-at-smaller c = let w = tells (goal.at.loop-at-smaller c).In_ok-row in omega (arith, w.least, w.within)

pub loop-at-preserved : goal.loop-at-preserved
loop-at-preserved c =
    let v = c.loop-at.invariant in
    (climbing_more _ _ _ _ _ _ _ _ _ v.0 c.loop-at-test.true _ c.in_ok-row.ensures c.match_up-now.ensures.below-is c.if-not-now.false c.match_up-now.ensures.len_is c.latest-from.ensures c.latest-from_len.ensures, counting-span _ _ _ _ _ v.1 _ c.in_ok-row.ensures)

pub returns : goal.returns
returns c = let v = c.loop-at.invariant in halts_there _ _ _ _ _ _ _ _ _ v.0 v.1 (climbing_over _ _ _ _ _ _ _ _ _ v.0 c.loop-at-test.false) c.halt-2.ensures
