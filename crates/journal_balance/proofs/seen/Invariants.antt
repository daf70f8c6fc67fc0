-- `seen` keeps its promise. The loop's invariant (`Seeking`): what a walk from the root meets it meets from this slot on. Slots come one after another, so the walk ends.
use Prim.Native.Nat.{◌+◌, ◌*◌, ◌/◌, ◌-◌, ◌<◌}
use Rattle.journal.specs.Record.{byte_of}
use Rattle.journal_balance.specs.Laws.Tree.{Seeking}
use Rattle.journal_balance.proofs.seen.Given as goal

abbrev pub invariant-loop-p : goal.invariant-loop-p
invariant-loop-p l = (l.slot < 2 + l.at / 21 * 2) × Seeking l.journal l.tree (byte_of l.kind) l.card l.retry l.slot l.bits

abbrev pub decreases-loop-p : goal.decreases-loop-p
decreases-loop-p l = 6240 - l.slot
