-- `region_in` keeps its promise: 15 where the definition refuses, else its numbers.
-- The joined test is the definition's once the offsets that were read are the definition's.
use Rattle.trailer.specs.Joined.{region_bad, region-fine, region-ends}
use Rattle.trailer.proofs.region_in.Goals as goal

pub returns-then-first_of-end : goal.returns-then-first_of-end
returns-then-first_of-end c = (region_bad _ _ _ (rw (c.first_of.ensures, c.pick-limit.ensures, c.pick-end.ensures, c.short_at-next.ensures.0, c.short_at-start.ensures.0) at c.if-first_of-end.true))

pub overflow_sub-end : goal.overflow_sub-end
overflow_sub-end c =
    region-ends c.first_of.result c.short_at-start.result c.pick-end.result c.pick-limit.result c.if-first_of-end.false

pub returns : goal.returns
returns c = rw (c.pick.ensures, c.pick-end.ensures, c.short_at-next.ensures.0, c.short_at-start.ensures.0)
    ((region-fine _ _ _ (rw (c.first_of.ensures, c.pick-limit.ensures, c.pick-end.ensures, c.short_at-next.ensures.0, c.short_at-start.ensures.0) at c.if-first_of-end.false)))
