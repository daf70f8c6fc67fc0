use mathlib.Core.Path.{◌≡◌, ap, sym, ◌∙◌}
use native.Mathlib.Omega.{arith}
use Rattle.layout.specs.Res.{ok}
use Rattle.layout.specs.Plain.{spans}
use Rattle.layout.specs.Trailer.{row_in}
use Rattle.basics.specs.Answers.{says}
use Rattle.trailer.specs.Says.{region_from}
use Rattle.layout.proofs.Laws.MatchWalk.{SpanTells, span-tells}
use Rattle.layout.proofs.Laws.Number.{counting-start}
use Rattle.row_span_v2.specs.Promise.{span_from}
use Rattle.block_regions_v2.specs.Parts.{reaching_start, reaching_more, reaching_far, reaching_none}
use Rattle.block_regions_v2.specs.Count.{counting-span}
use Rattle.block_regions_v2.proofs.reach.Goals.{In-Ok}
use Rattle.block_regions_v2.proofs.reach.Goals as goal

-- what the row that a turn read tells
read : (k : In-Ok) → let a = k.args in ok (span_from k.in-Ok.row) ≡ spans (row_in a.data.now (region_from a.region) k.loop-row.at k.loop-row.len)
read k = sym (ap (says span_from) k.in-Ok.is) ∙ k.span_in.ensures

tells : (k : In-Ok) → let a = k.args in
    SpanTells a.data.now k.loop-row.at a.region.end k.loop-row.len (span_from k.in-Ok.row)
tells k = span-tells _ _ _ _ _ _ (read k)

pub loop-row-init : goal.loop-row-init
loop-row-init c = (reaching_start _ _ _ c.requires, counting-start _ _)

pub returns-in_default : goal.returns-in_default
returns-in_default c = let v = c.loop-row.invariant in record { there = v.0; counts = v.1; far = reaching_none _ _ _ _ _ _ v.0 (sym (ap (says span_from) c.in_default.is) ∙ c.span_in.ensures) }

pub returns-then-stop-row : goal.returns-then-stop-row
returns-then-stop-row c = let v = c.loop-row.invariant in record { there = v.0; counts = v.1; far = reaching_far _ _ _ _ _ _ v.0 _ (read (goal.at.returns-then-stop-row c).In-Ok) c.if-stop-row.true }

pub overflow_add-len : goal.overflow_add-len
overflow_add-len c = omega (arith, (tells (goal.at.overflow_add-len c).In-Ok).few)

pub overflow_add-number : goal.overflow_add-number
overflow_add-number c = omega (arith, (tells (goal.at.overflow_add-number c).In-Ok).least, (tells (goal.at.overflow_add-number c).In-Ok).inside, c.loop-row.invariant.1.far)

pub loop-row-smaller : goal.loop-row-smaller
loop-row-smaller c = let w = tells (goal.at.loop-row-smaller c).In-Ok in omega (arith, w.least, c.if-stop-row.false)

pub loop-row-preserved : goal.loop-row-preserved
loop-row-preserved c =
    let v = c.loop-row.invariant in
    (reaching_more _ _ _ _ _ _ v.0 _ (read (goal.at.loop-row-preserved c).In-Ok) c.if-stop-row.false c.known_after-known.ensures, counting-span _ _ _ _ _ v.1 _ (read (goal.at.loop-row-preserved c).In-Ok))
