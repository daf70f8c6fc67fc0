-- `seek_in_array` makes the rules' own seek.
-- The array has as many bytes as a key may have, so the seek over lent bytes is that one.
use mathlib.Core.Path.{refl, sym}
use Rattle.seek_in_place_v2.specs.Lent.{lent-whole}
use Rattle.seek_in_place_v2.proofs.Walks.{finds_as}
use Rattle.block_iterator_v2.proofs.seek_in_array.Goals as goal

pub returns : goal.returns
returns c = finds_as _ _ _ (sym (lent-whole _ _ _ _ c.requires refl)) c.seek_in_place.ensures
