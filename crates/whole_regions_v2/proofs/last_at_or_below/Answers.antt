use mathlib.Core.Path.{sym, ◌∙◌}
use native.Mathlib.Omega.{arith}
use Rattle.layout.proofs.Laws.Res.{handed}
use Rattle.layout.proofs.Laws.Number.{counting-start, counting-here}
use Rattle.layout.proofs.Laws.MatchWalk.{down-start, down-over, down-no, SpanTells, span-tells}
use Rattle.row_span_v2.specs.Promise.{span_from}
use Rattle.block_regions_v2.specs.Count.{counting-span}
use Rattle.whole_regions_v2.specs.Count.{counting-best}
use Rattle.whole_regions_v2.specs.Laws.{last_strange, last-there, last-is, turn-down}
use Rattle.layout.proofs.Laws.Plain.{span-no}
use Rattle.basics.specs.Answers.{handed-on}
use Rattle.whole_regions_v2.specs.Says.{last_from}
use Rattle.whole_regions_v2.proofs.last_at_or_below.Goals.{In_ok-row}
use Rattle.whole_regions_v2.proofs.last_at_or_below.Goals as goal

-- what the row that a turn read tells
tells : (k : In_ok-row) → let a = k.args in
    SpanTells a.data.now k.loop-at.at a.region.end k.loop-at.len (span_from k.in_ok-row.row)
tells k = span-tells _ _ _ _ _ _ k.in_ok-row.ensures

pub returns-then-data-region : goal.returns-then-data-region
returns-then-data-region c = handed _ (sym (last_strange _ _ _ c.if-data-region.true))

pub loop-at-init : goal.loop-at-init
loop-at-init c = (down-start _ _ _ _ c.if-data-region.false, counting-start _ _, counting-here _ _ _ _ _ (counting-start _ _))

pub returns-in_err-row : goal.returns-in_err-row
returns-in_err-row c =
    handed-on last_from _ _ c.from_residual.ensures.1
    (handed _ (sym (down-no _ _ _ _ _ _ _ _ _ c.loop-at.invariant.0 c.loop-at-test.true (span-no _ c.in_err-row.ensures) ∙ last-there _ _ _ c.if-data-region.false)))

pub overflow_add-to : goal.overflow_add-to
overflow_add-to c = omega (arith, (tells (goal.at.overflow_add-to c).In_ok-row).suffix)

pub slice_bounds-match_down-end : goal.slice_bounds-match_down-end
slice_bounds-match_down-end c = (tells (goal.at.slice_bounds-match_down-end c).In_ok-row).suffix

pub overflow_add-len : goal.overflow_add-len
overflow_add-len c = omega (arith, (tells (goal.at.overflow_add-len c).In_ok-row).few)

pub overflow_add-number : goal.overflow_add-number
overflow_add-number c = omega (arith, (tells (goal.at.overflow_add-number c).In_ok-row).least, (tells (goal.at.overflow_add-number c).In_ok-row).inside, c.loop-at.invariant.1.far)

pub loop-at-smaller : goal.loop-at-smaller
loop-at-smaller c = let w = tells (goal.at.loop-at-smaller c).In_ok-row in omega (arith, w.least, w.within)

pub loop-at-preserved : goal.loop-at-preserved
loop-at-preserved c =
    let v = c.loop-at.invariant in
    (turn-down _ _ _ _ _ _ _ _ _ v.0 c.loop-at-test.true _ c.in_ok-row.ensures c.match_down-now.ensures.len_is c.match_down-now.ensures.below-is c.later-best.ensures, counting-span _ _ _ _ _ v.1 _ c.in_ok-row.ensures, counting-best _ _ _ _ _ v.1 _ c.in_ok-row.ensures c.match_down-now.result.below _ _ v.2 c.later-best.ensures c.later-best_number.ensures)

pub returns : goal.returns
returns c = last-is _ _ _ (down-over _ _ _ _ _ _ _ _ _ c.loop-at.invariant.0 c.loop-at-test.false ∙ last-there _ _ _ c.if-data-region.false) c.loop-at.invariant.2
