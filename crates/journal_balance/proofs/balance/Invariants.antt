-- `balance` keeps its promise. The loop's invariant: the sums are those of the records passed, what is made of the rest, added to them, is what is made of the whole journal
-- (`Balancing`), and the tree has the card's records that were passed (`Keeps`).
use Prim.Native.Nat.{◌-◌, ◌≤◌}
use lib.ListN.{length}
use Rattle.journal_balance.specs.Tree.{Keeps}
use Rattle.journal_balance.specs.Laws.Loops.{Balancing}
use Rattle.journal_balance.proofs.balance.Given as goal

abbrev pub invariant-loop-at : goal.invariant-loop-at
invariant-loop-at l =
    (l.at ≤ length l.journal) × (length l.journal ≤ 65536) × Balancing l.journal l.card l.s l.at × Keeps l.journal l.card l.at l.s.closed l.tree

abbrev pub decreases-loop-at : goal.decreases-loop-at
decreases-loop-at l = length l.journal - l.at
