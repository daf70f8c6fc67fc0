-- `next_in_array` makes the rules' own step.
-- The array has as many bytes as a key may have, so the step over lent bytes is that one.
use mathlib.Core.Path.{refl, sym}
use Rattle.step_in_place_v2.specs.Lent.{lent-whole}
use Rattle.step_in_place_v2.proofs.Laws.{moves_as}
use Rattle.block_iterator_v2.proofs.next_in_array.Goals as goal

pub returns : goal.returns
returns c =
    moves_as _ _ _ _ (sym (lent-whole _ _ _ _ c.requires refl)) c.next_in_place.ensures
