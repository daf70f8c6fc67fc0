-- `get_u64` keeps its promise: eight bytes, or 9 where the input ends.
-- Its test is the definition's, said without a sum that may wrap; eight bytes are two fours.
use native.Mathlib.Omega.{arith}
use Rattle.layout.proofs.Laws.Place.{fixed_at-none, fixed_at-eight}
use Rattle.buf.proofs.get_u64.Goals as goal

pub returns-then-rest_from-lt8 : goal.returns-then-rest_from-lt8
returns-then-rest_from-lt8 c = fixed_at-none 8 _ _ (omega arith)

pub returns : goal.returns
returns c =
    let a = c.args in
    rw (c.four_at-high.ensures.0, c.four_at-low.ensures.0) (fixed_at-eight a.s.now a.at (omega arith))
