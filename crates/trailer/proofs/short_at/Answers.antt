-- `short_at` keeps its promise: the two bytes that its caller knows to be there.
-- Both are bytes, so that no sum of them wraps, and the number that they make is the definition's.
use mathlib.Core.Path.{sym}
use Rattle.layout.proofs.Laws.Place.{fixed_at-two}
use Rattle.layout.proofs.Laws.Trailer.{short-read}
use borrow.Author.Rules.{rules}
use Rattle.trailer.proofs.short_at.Goals as goal

pub returns : goal.returns
returns c = (rw (c.from-high.ensures, c.from-low.ensures) (short-read _ _ _ (sym (fixed_at-two c.args.block.now c.args.at c.requires))), search rules)
