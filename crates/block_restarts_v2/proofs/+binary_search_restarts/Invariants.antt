-- `binary_search_restarts` keeps its promise: each of its exits is one case of the search that carries its count.
-- It ends since high minus low falls at each call; the middle lies between them, so both halves are shorter than the span.
use Prim.Native.Nat.{◌-◌}
use Rattle.block_restarts_v2.proofs.+binary_search_restarts.Given as goal

abbrev pub decreases-binary_search_restarts : goal.decreases-binary_search_restarts
decreases-binary_search_restarts l = l.high - l.low
