-- `search_restarts` keeps its promise for any trailer: 18 where its numbers are not this block's, else the whole search.
-- What the test tells is what the search requires.
use Prim.Native.Nat.{◌+◌, ◌*◌, ◌<◌}
use mathlib.Core.Path.{◌≡◌, ap}
use native.Mathlib.Omega.{arith}
use lib.ListN.{length}
use Rattle.trailer.specs.Laws.{has-is, handed_strange}
use Rattle.block_restarts_v2.specs.Laws.{search-there}
use mathlib.Core.Bool.{not}
use Rattle.block_restarts_v2.proofs.search_restarts.Goals.{Else-not-has_region}
use Rattle.block_restarts_v2.proofs.search_restarts.Goals as goal

known : (k : Else-not-has_region) → let a = k.args in (a.t.size + (2 + 2 * a.t.count) ≡ length a.block.now) × (0 < a.t.count)
known k = has-is _ _ _ (rw k.has_region.ensures at (ap not k.if-not-has_region.false))

pub returns-then-not-has_region : goal.returns-then-not-has_region
returns-then-not-has_region c = handed_strange _ _ _ _ (rw c.has_region.ensures at (ap not c.if-not-has_region.true))

pub binary_search_restarts-requires : goal.binary_search_restarts-requires
binary_search_restarts-requires c =
    let k = known (goal.at.binary_search_restarts-requires c).Else-not-has_region in
    record { count_value = (k.0, omega arith); low_bound = omega arith }

pub returns : goal.returns
returns c = search-there _ _ _ (known (goal.at.returns c).Else-not-has_region) c.binary_search_restarts.ensures
