-- `is_empty_state` answers whether the builder has no row.
-- The test of the counter is the definition's (`empty-rule`), which asks nothing else of the builder: so any state answers, whatever its last key's bytes are.
use Rattle.layout.proofs.Laws.Building.{empty-rule}
use Rattle.state_v2.specs.Says.{view_from}
use Rattle.state_v2.proofs.is_empty_state.Goals as goal

pub returns : goal.returns
returns c = λ last. empty-rule (view_from c.args.s last)
