-- `new_state` keeps its promise: an empty builder with these settings, or 8 and the zero one.
-- The three tests are the definition's, in its order, and each exit is one of its laws.
use Rattle.layout.proofs.Laws.Builder.{new_large, new_none, new-long, new-good}
use Rattle.state_v2.proofs.Made.{made-not, made-good}
use Rattle.state_v2.proofs.new_state.Goals as goal

pub returns-then-block_size-gt-MAX_BLOCK : goal.returns-then-block_size-gt-MAX_BLOCK
returns-then-block_size-gt-MAX_BLOCK c = made-not _ _ c.empty_state.ensures (new_large _ _ c.if-block_size-gt-MAX_BLOCK.true)

pub returns-then-restart_interval-eq0 : goal.returns-then-restart_interval-eq0
returns-then-restart_interval-eq0 c = made-not _ _ c.empty_state.ensures (new_none _ _ c.if-block_size-gt-MAX_BLOCK.false c.if-restart_interval-eq0.true)

pub returns-then-restart_interval-gt-MAX_INTERVAL : goal.returns-then-restart_interval-gt-MAX_INTERVAL
returns-then-restart_interval-gt-MAX_INTERVAL c = made-not _ _ c.empty_state.ensures (new-long _ _ c.if-block_size-gt-MAX_BLOCK.false c.if-restart_interval-gt-MAX_INTERVAL.true)

pub returns : goal.returns
returns c = made-good _ _ c.empty_state-2.ensures (new-good _ _ c.if-block_size-gt-MAX_BLOCK.false c.if-restart_interval-eq0.false c.if-restart_interval-gt-MAX_INTERVAL.false)
