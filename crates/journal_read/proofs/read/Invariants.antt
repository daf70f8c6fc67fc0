-- `read` keeps its promise. The loop's invariant: what is made of the records from here on, after those passed, is what is made of the whole journal.
use Prim.Native.Nat.{◌-◌, ◌≤◌}
use lib.ListN.{length}
use Rattle.journal_read.specs.Reader.{reading_of}
use Rattle.journal_read.specs.Parts.{shown}
use Rattle.journal_read.specs.Laws.Going.{Going}
use Rattle.journal_read.proofs.read.Given as goal

abbrev pub invariant-loop-at : goal.invariant-loop-at
invariant-loop-at l = (l.records ≤ l.at) × (l.at ≤ length l.journal) × (length l.journal ≤ 65536) × Going l.journal (shown (length l.journal) l.records) (reading_of l.journal) l.at

abbrev pub decreases-loop-at : goal.decreases-loop-at
decreases-loop-at l = length l.journal - l.at
