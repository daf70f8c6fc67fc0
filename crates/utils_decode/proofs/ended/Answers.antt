-- `ended` answers what `ended_by` says: 10 for a last byte of 0, else the number with that byte.
-- Its one test is the definition's.
use borrow.Author.Tests.{eq-eqb, ne_eqb}
use Rattle.utils_decode.proofs.ended.Goals as goal

pub returns-then-b-eq0 : goal.returns-then-b-eq0
returns-then-b-eq0 c = rw (eq-eqb c.args.b 0 c.if-b-eq0.true)

pub returns : goal.returns
returns c = rw (ne_eqb c.args.b 0 c.if-b-eq0.false)
