-- `seek_ascending` keeps the promise of a seek up: the search's refusal, or the walk up from where the search says.
-- The trailer was read from the block, so both are the definition's, and the walk starts in a region of the block.
use mathlib.Core.Path.{refl, sym}
use Rattle.block_restarts_v2.specs.Laws.{up-inside, seek-up-no, seek-up}
use Rattle.seek_in_place_v2.proofs.Walks.{finds-handed, finds_as}
use Rattle.seek_in_place_v2.proofs.seek_ascending.Goals as goal

pub returns-in_err-start : goal.returns-in_err-start
returns-in_err-start c = λ p. finds-handed _ p _ _ _ c.from_residual.ensures.1 (seek-up-no _ _ _ c.requires.1 (sym c.in_err-start.ensures)) refl

pub walk_up-requires : goal.walk_up-requires
walk_up-requires c = (c.requires.0, record { read = c.requires.1; inside = up-inside _ _ _ _ (sym c.in_ok-start.ensures) })

pub returns : goal.returns
returns c = λ p. finds_as _ p _ (seek-up _ _ _ c.requires.1 _ (sym c.in_ok-start.ensures) _ refl) (c.walk_up.ensures p)
