-- `is_empty_state` answers whether the builder has no row.
-- The test of the rows is the definition's (`empty-rule`), which asks nothing else of the builder: so any state answers, whatever its first key's bytes are.
use Rattle.layout_v1.proofs.Laws.Builder.{empty-rule}
use Rattle.state_v1.specs.Says.{view_from}
use Rattle.state_v1.proofs.is_empty_state.Goals as goal

pub returns : goal.returns
returns c = λ first. empty-rule (view_from c.args.s first)
