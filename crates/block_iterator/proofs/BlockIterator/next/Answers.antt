-- `next` keeps its promise: 14, 18, "done", or the step to the row that comes next.
-- Each exit is a law of the definition at the trailer that was read.
use mathlib.Core.Path.{sym}
use native.Mathlib.Omega.{arith}
use Rattle.layout_v1.proofs.Laws.Cursor.{next-trailer, next_strange, next-done, next-on}
use Rattle.block_iterator.proofs.Laws.{steps-not, steps-done, steps_as}
use Rattle.block_iterator.proofs.BlockIterator.next.Goals as goal

pub returns-in-Err : goal.returns-in-Err
returns-in-Err c = steps-not _ _ _ (next-trailer _ _ _ (sym c.in-Err.ensures)) c.refused.ensures

pub returns-then-t-self : goal.returns-then-t-self
returns-then-t-self c = steps-not _ _ _ (next_strange _ _ _ _ (sym c.in-Ok.ensures) c.if-t-self.true) c.refused-then-t-self.ensures

pub returns-then-self-t : goal.returns-then-self-t
returns-then-self-t c = steps-done _ c.args.self _ (next-done _ _ _ _ (sym c.in-Ok.ensures) c.if-self-t.true)

pub returns : goal.returns
returns c =
    steps_as _ _ _ (next-on _ _ _ _ (sym c.in-Ok.ensures) (omega (arith, c.if-t-self.false, c.if-self-t.false))) c.give_row.ensures
