-- `first_after` keeps its promise: the test is the definition's.
use borrow.Author.Tests.{eq-eqb, ne_eqb}
use Rattle.block_check_v1.proofs.first_after.Goals as goal

pub returns-then-r-eq0 : goal.returns-then-r-eq0
returns-then-r-eq0 c = rw (eq-eqb c.args.r 0 c.if-r-eq0.true)

pub returns-else-r-eq0 : goal.returns-else-r-eq0
returns-else-r-eq0 c = rw (ne_eqb c.args.r 0 c.if-r-eq0.false)
