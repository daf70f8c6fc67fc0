-- `stray_bytes` answers how many bytes belong to no row: where there is no row all that are used, else none.
-- The test of the counter is the definition's, which with that test known is the number that the branch answers.
use borrow.Author.Tests.{eq-eqb, ne_eqb}
use Rattle.finish_in_place_v2.proofs.stray_bytes.Goals as goal

pub returns-then-counter-eq0 : goal.returns-then-counter-eq0
returns-then-counter-eq0 c = simp (eq-eqb _ _ c.if-counter-eq0.true)

pub returns-else-counter-eq0 : goal.returns-else-counter-eq0
returns-else-counter-eq0 c = simp (ne_eqb _ _ c.if-counter-eq0.false)
