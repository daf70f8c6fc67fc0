-- A place and lent key bytes become a cursor by value.
-- The copy goes over all bytes of the new key, so that they are the lent ones.
use mathlib.Core.Path.{refl, ap}
use Rattle.by_value_words.specs.Promise.{iterator_over}
use Rattle.by_value_words.proofs.Laws.{copied-whole}
use Rattle.compare_by_value.proofs.iterator_over.Goals as goal

pub returns : goal.returns
returns c =
    ap (iterator_over c.args.p) (copied-whole c.args.key.now refl c.requires c.copy_in.ensures)
