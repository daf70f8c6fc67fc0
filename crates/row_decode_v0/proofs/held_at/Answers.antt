-- `held_at` keeps to the definition, kind by kind.
-- In each arm the kind is known, and the definition computes at it.
use mathlib.Core.Path.{◌∙◌}
use Rattle.layout_v1.specs.RowRead.{held_at}
use Rattle.row_decode_v0.specs.Reading.{kept_at}
use Rattle.row_decode_v0.proofs.held_at.Goals as goal

pub returns-in-Value : goal.returns-in-Value
unfolding held_at kept_at
returns-in-Value c = c.kept_at.ensures ∙ rw c.in-Value.is

pub returns-in-Tombstone : goal.returns-in-Tombstone
unfolding held_at
returns-in-Tombstone c = rw c.in-Tombstone.is

pub returns-in-Merge : goal.returns-in-Merge
unfolding held_at kept_at
returns-in-Merge c = c.kept_at-in-Merge.ensures ∙ rw c.in-Merge.is
