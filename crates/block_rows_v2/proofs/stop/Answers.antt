-- `stop` answers by whether there is a row: the test is known in each arm, and the definition computes at it.
use borrow.Author.Tests.{eq-eqb, ne_eqb}
use Rattle.block_rows_v2.proofs.stop.Goals as goal

pub returns-then-n-eq0 : goal.returns-then-n-eq0
returns-then-n-eq0 c = rw (eq-eqb _ 0 c.if-n-eq0.true)

pub returns : goal.returns
returns c = rw (ne_eqb _ 0 c.if-n-eq0.false)
