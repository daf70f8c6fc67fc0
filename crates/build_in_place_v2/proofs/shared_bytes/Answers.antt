-- `shared_bytes` keeps its promise: nothing at a restart, else the common prefix of the last key and this one.
-- The two branches are the two cases of the definition (`share-restart`, `share-plain`); the prefix is what `compute_prefix` promised.
use mathlib.Core.Path.{◌∙◌}
use Rattle.layout.proofs.Laws.Building.{share-restart, share-plain}
use Rattle.build_in_place_v2.proofs.shared_bytes.Goals as goal

pub returns-then-restart : goal.returns-then-restart
returns-then-restart c = rw c.if-restart.true (share-restart _ _)

pub returns : goal.returns
returns c = rw c.if-restart.false (c.compute_prefix.ensures ∙ share-plain _ _)
