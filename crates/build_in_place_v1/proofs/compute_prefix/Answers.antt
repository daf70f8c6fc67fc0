-- `compute_prefix` answers nothing for row 0, before which there is no key, and else how many bytes the key and the first key begin with alike.
-- The first key is the first `first_len` of the lent bytes: there are so many, as required, so the part that is passed on is that long, and `common_prefix` promises the rest.
use mathlib.Core.Path.{sym}
use lib.Seq.{length-take-le}
use borrow.Author.Tests.{eq-eqb, ne_eqb}
use Rattle.layout.specs.Key.{common}
use Rattle.build_in_place_v1.proofs.compute_prefix.Goals as goal

pub returns-then-rows-eq0 : goal.returns-then-rows-eq0
unfolding common
returns-then-rows-eq0 c = rw (eq-eqb _ _ c.if-rows-eq0.true)

pub slice_bounds-common_prefix-end : goal.slice_bounds-common_prefix-end
slice_bounds-common_prefix-end c = sym (length-take-le _ _ c.requires)

pub returns : goal.returns
returns c = rw (ne_eqb _ _ c.if-rows-eq0.false) c.common_prefix.ensures
