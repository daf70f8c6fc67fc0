-- `search_rows` keeps its promise: each of its exits is one case of the search that carries its count.
-- It ends since high minus low falls at each call; the middle lies between them, so both halves are shorter than the span.
use Prim.Native.Nat.{◌-◌}
use Rattle.block_keys_v1.proofs.+search_rows.Given as goal

abbrev pub decreases-search_rows : goal.decreases-search_rows
decreases-search_rows l = l.high - l.low
