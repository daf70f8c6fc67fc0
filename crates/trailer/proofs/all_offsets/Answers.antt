-- `all_offsets` keeps its promise for any numbers: 18 where they are not this block's, else `offsets_rise`'s answer.
-- What the test tells is what `offsets_rise` requires.
use mathlib.Core.Path.{sym, ◌∙◌, ap}
use Rattle.trailer.specs.Laws.{has-is, handed_strange, handed-known}
use mathlib.Core.Bool.{not}
use Rattle.trailer.proofs.all_offsets.Goals as goal

pub returns-then-not-has_region : goal.returns-then-not-has_region
returns-then-not-has_region c = handed_strange _ _ _ _ (rw c.has_region.ensures at (ap not c.if-not-has_region.true))

pub offsets_rise-requires : goal.offsets_rise-requires
offsets_rise-requires c = has-is _ _ _ (rw c.has_region.ensures at (ap not c.if-not-has_region.false))

pub returns : goal.returns
returns c =
    c.offsets_rise.ensures ∙ sym (handed-known _ _ _ _ (has-is _ _ _ (rw c.has_region.ensures at (ap not c.if-not-has_region.false))))
