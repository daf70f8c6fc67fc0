-- `compute_prefix` answers how many bytes the key and the last key begin with alike.
-- The last key is the first `last_len` of the lent bytes: there are so many, as required, so the part that is passed on is that long, and `common_prefix` promises the rest.
use mathlib.Core.Path.{sym}
use lib.Seq.{length-take-le}
use Rattle.build_in_place_v2.proofs.compute_prefix.Goals as goal

pub slice_bounds-common_prefix-end : goal.slice_bounds-common_prefix-end
slice_bounds-common_prefix-end c = sym (length-take-le _ _ c.requires)
