-- `trailer_of` keeps its promise: 14 where the definition refuses, else its numbers.
-- The joined test is the definition's two once the count that was read is the definition's.
use Rattle.layout.proofs.Laws.Trailer.{trailer-short}
use Rattle.trailer.specs.Joined.{trailer_bad, trailer-fine, trailer-fits}
use Rattle.trailer.proofs.trailer_of.Goals as goal

pub returns-then-len-lt2 : goal.returns-then-len-lt2
returns-then-len-lt2 c = trailer-short _ c.if-len-lt2.true

pub returns-then-count-len : goal.returns-then-count-len
returns-then-count-len c = trailer_bad _ c.if-len-lt2.false (rw c.short_at-count.ensures.0 at c.if-count-len.true)

pub overflow_sub-result : goal.overflow_sub-result
overflow_sub-result c = trailer-fits c.short_at-count.result _ c.if-count-len.false

pub returns : goal.returns
returns c = rw c.short_at-count.ensures.0 (trailer-fine _ c.if-len-lt2.false (rw c.short_at-count.ensures.0 at c.if-count-len.false))
