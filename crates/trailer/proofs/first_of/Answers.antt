-- `first_of` answers the offset for region 0, and 0 for any other region.
-- Its one test is the definition's: in each branch, with the test known, the definition is the number that the branch answers.
use borrow.Author.Tests.{eq-eqb, ne_eqb}
use Rattle.trailer.proofs.first_of.Goals as goal

pub returns-then-r-eq0 : goal.returns-then-r-eq0
returns-then-r-eq0 c = simp (eq-eqb _ _ c.if-r-eq0.true)

pub returns-else-r-eq0 : goal.returns-else-r-eq0
returns-else-r-eq0 c = simp (ne_eqb _ _ c.if-r-eq0.false)
