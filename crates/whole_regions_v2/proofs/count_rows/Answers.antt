use Rattle.std.specs.Prelude.{ℕ}
use Rattle.std.proofs.Common.{arith}
use Rattle.layout.proofs.Laws.Plain.{span-no}
use Rattle.basics.specs.Answers.{handed-on}
use Rattle.layout.proofs.Laws.MatchWalk.{SpanTells, span-tells}
use Rattle.layout.proofs.Laws.Number.{counting-start}
use Rattle.row_span_v2.specs.Promise.{span_from}
use Rattle.block_regions_v2.specs.Parts.{reaching_start}
use Rattle.block_regions_v2.specs.Count.{counting-span}
use Rattle.whole_regions_v2.specs.Count.{count_none, count_no, count-all, count-more}
use Rattle.whole_regions_v2.proofs.count_rows.Goals.{In_ok-row}
use Rattle.whole_regions_v2.proofs.count_rows.Goals as goal

-- what the row that a turn read tells
tells : (k : In_ok-row) → let a = k.args in
    SpanTells a.data.now k.loop-row.at a.region.end k.loop-row.len (span_from k.in_ok-row.row)
tells k = span-tells _ _ _ _ _ _ k.in_ok-row.ensures

pub returns-then-region : goal.returns-then-region
returns-then-region c = count_none _ _ c.if-region.true

pub loop-row-init : goal.loop-row-init
loop-row-init c = (reaching_start _ _ _ c.if-region.false, counting-start _ _)

pub returns-in_err-row : goal.returns-in_err-row
returns-in_err-row c = handed-on (λ (n : ℕ). n) _ _ c.from_residual.ensures.1 (count_no _ _ c.if-region.false _ _ c.loop-row.invariant.0 (span-no _ c.in_err-row.ensures))

pub overflow_add-rows : goal.overflow_add-rows
overflow_add-rows c = omega (arith, (tells (goal.at.overflow_add-rows c).In_ok-row).least, (tells (goal.at.overflow_add-rows c).In_ok-row).inside, c.loop-row.invariant.1.far)

pub returns-then-region-row : goal.returns-then-region-row
returns-then-region-row c =
    count-all _ _ c.if-region.false _ _ c.loop-row.invariant.0 _ c.in_ok-row.ensures _ c.loop-row.invariant.1 c.if-region-row.true

pub overflow_add-len : goal.overflow_add-len
overflow_add-len c = omega (arith, (tells (goal.at.overflow_add-len c).In_ok-row).few)

pub loop-row-smaller : goal.loop-row-smaller
loop-row-smaller c = let w = tells (goal.at.loop-row-smaller c).In_ok-row in omega (arith, w.least, c.if-region-row.false)

pub loop-row-preserved : goal.loop-row-preserved
loop-row-preserved c =
    let p = span_from c.in_ok-row.row in
    (count-more _ _ c.if-region.false _ _ c.loop-row.invariant.0 p c.in_ok-row.ensures c.if-region-row.false, counting-span _ _ _ _ _ c.loop-row.invariant.1 p c.in_ok-row.ensures)
