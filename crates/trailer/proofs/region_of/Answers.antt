-- `region_of` keeps its promise for any numbers: 18 where they are not this block's or there is no such
-- region, else `region_in`'s answer. What the test tells is what `region_in` requires.
use Rattle.std.specs.Prelude.{not}
use Rattle.std.proofs.Common.{ap, sym, ◌∙◌}
use Rattle.trailer.specs.Laws.{has-is, handed_strange, handed-known}
use Rattle.trailer.proofs.region_of.Goals as goal

pub returns-then-not-has_region : goal.returns-then-not-has_region
returns-then-not-has_region c = handed_strange _ _ _ _ (rw c.has_region.ensures at (ap not c.if-not-has_region.true))

pub region_in-requires : goal.region_in-requires
region_in-requires c = has-is _ _ _ (rw c.has_region.ensures at (ap not c.if-not-has_region.false))

pub returns : goal.returns
returns c =
    c.region_in.ensures ∙ sym (handed-known _ _ _ _ (has-is _ _ _ (rw c.has_region.ensures at (ap not c.if-not-has_region.false))))
