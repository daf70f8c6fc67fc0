-- `tallied` counts one row: among the rows, among the tombstones or the merges where it is one, and its value's bytes.
-- There is one law for each of the three kinds: the counts that its arm sets are the sums that `added` promised, and the others are those that came.
use Rattle.tally.proofs.Laws.{value-counted, tombstone_counted, merge-counted}
use Rattle.tally.proofs.tallied.Goals as goal

pub returns-in-Value : goal.returns-in-Value
returns-in-Value c =
    value-counted _ c.added.ensures c.in-Value.is c.added-in-Value.ensures

pub returns-in-Tombstone : goal.returns-in-Tombstone
returns-in-Tombstone c = tombstone_counted _ c.added.ensures c.in-Tombstone.is c.added-in-Tombstone.ensures

pub returns-in-Merge : goal.returns-in-Merge
returns-in-Merge c =
    merge-counted _ c.added.ensures c.in-Merge.is c.added-in-Merge.ensures c.added-in-Merge-2.ensures
