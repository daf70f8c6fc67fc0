-- `is_empty` keeps its promise: 14, else whether no fewer rows are passed than the trailer counts.
use mathlib.Core.Path.{sym}
use Rattle.layout_v1.proofs.Laws.Cursor.{empty-trailer, empty-is}
use Rattle.basics.specs.Answers.{handed-on}
use Rattle.block_iterator.proofs.BlockIterator.is_empty.Goals as goal

pub returns-in_err-t : goal.returns-in_err-t
returns-in_err-t c = handed-on (λ b. b) _ _ c.from_residual.ensures.1 (sym (empty-trailer _ _ (sym c.in_err-t.ensures)))

pub returns : goal.returns
returns c = sym (empty-is _ _ _ (sym c.in_ok-t.ensures))
