-- `seek_descending` keeps the promise of a seek down: the search's refusal, or the walk down from where the search says.
-- The trailer was read from the block, so both are the definition's, and the walk starts in a region of the block.
use mathlib.Core.Path.{refl, sym}
use Rattle.block_restarts_v2.specs.Laws.{down-inside, seek-down-no, seek-down}
use Rattle.seek_in_place_v2.proofs.Walks.{finds-handed, finds_as}
use Rattle.seek_in_place_v2.proofs.seek_descending.Goals as goal

pub returns-in_err-start : goal.returns-in_err-start
returns-in_err-start c = λ p key. finds-handed _ p key _ _ c.from_residual.ensures.1 (seek-down-no _ _ _ c.requires (sym c.in_err-start.ensures)) refl

pub walk_down-requires : goal.walk_down-requires
walk_down-requires c = record { read = c.requires; inside = down-inside _ _ _ _ (sym c.in_ok-start.ensures) }

pub returns : goal.returns
returns c = λ p key. finds_as _ p key (seek-down _ _ _ c.requires _ (sym c.in_ok-start.ensures) _ refl) (c.walk_down.ensures p key)
