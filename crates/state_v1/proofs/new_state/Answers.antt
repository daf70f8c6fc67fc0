-- `new_state` keeps its promise: an empty builder of this size, or 8 and the zero one.
-- The test is the definition's. The builder that is made carries no key, so this holds whatever its first key's bytes are.
use mathlib.Core.Path.{refl}
use Rattle.layout_v1.proofs.Laws.Builder.{new_large, new-good}
use Rattle.state_v1.proofs.new_state.Goals as goal

pub returns-then-block_size-gt-MAX_BLOCK : goal.returns-then-block_size-gt-MAX_BLOCK
returns-then-block_size-gt-MAX_BLOCK c = rw (c.empty_state.ensures, new_large _ c.if-block_size-gt-MAX_BLOCK.true) (record { answer = refl; view = λ first. refl })

pub returns : goal.returns
returns c = rw (c.empty_state-2.ensures, new-good _ c.if-block_size-gt-MAX_BLOCK.false) (record { answer = refl; view = λ first. refl })
