-- `region_by` keeps its promise: the joined test is the definition's two once the count that was read is the definition's; where it is
-- not passed, the trailer is refused, or has no such region.
use Rattle.std.proofs.Common.{sym, ◌∙◌, arith}
use Rattle.layout.proofs.Laws.Res.{handed}
use Rattle.basics.specs.Answers.{handed-on}
use Rattle.trailer.specs.Says.{region_from}
use Rattle.trailer.specs.Joined.{by-short, by-past, by-inside, by-fine}
use Rattle.trailer.proofs.region_by.Goals as goal

pub returns-then-len-lt2 : goal.returns-then-len-lt2
returns-then-len-lt2 c = by-short _ _ c.if-len-lt2.true

pub returns-in_err-trailer_of : goal.returns-in_err-trailer_of
returns-in_err-trailer_of c = handed-on region_from _ _ c.from_residual.ensures.1 (handed _ (sym c.in_err-trailer_of.ensures))

pub returns-then-count-r : goal.returns-then-count-r
returns-then-count-r c = by-past _ _ c.if-len-lt2.false _ (sym c.in_ok-trailer_of.ensures) (rw c.short_at-count.ensures.0 at c.if-count-r.true)

pub overflow_sub-t : goal.overflow_sub-t
overflow_sub-t c = (by-inside c.short_at-count.result _ _ c.if-count-r.false).1

pub region_in-requires : goal.region_in-requires
region_in-requires c = let w = by-inside c.short_at-count.result _ _ c.if-count-r.false in
    (omega (arith, w.1), w.0)

pub returns : goal.returns
returns c = rw c.short_at-count.ensures.0 at c.region_in.ensures ∙ by-fine _ _ c.if-len-lt2.false (rw c.short_at-count.ensures.0 at c.if-count-r.false)
