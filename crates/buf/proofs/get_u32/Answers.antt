-- `get_u32` keeps its promise: four bytes, or 9 where the input ends.
-- Its test is the definition's, said without a sum that may wrap.
use native.Mathlib.Omega.{arith}
use Rattle.layout.proofs.Laws.Place.{fixed_at-none}
use Rattle.buf.proofs.Laws.{fixed_at-four}
use borrow.Author.Rules.{rules}
use Rattle.buf.proofs.get_u32.Goals as goal

pub returns-then-rest_from-lt4 : goal.returns-then-rest_from-lt4
returns-then-rest_from-lt4 c = (fixed_at-none 4 _ _ (omega arith), search rules)

pub returns : goal.returns
returns c =
    let a = c.args in
    (rw c.four_at-value.ensures.0 (fixed_at-four a.s.now a.at (omega arith)), c.four_at-value.ensures.1)
