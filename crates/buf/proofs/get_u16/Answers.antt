-- `get_u16` keeps its promise: two bytes, or 9 where the input ends.
-- Its test is the definition's, said without a sum that may wrap.
use native.Mathlib.Omega.{arith}
use Rattle.layout.proofs.Laws.Place.{fixed_at-none, fixed_at-two}
use borrow.Author.Rules.{rules}
use Rattle.buf.proofs.get_u16.Goals as goal

pub returns-then-rest_from-lt2 : goal.returns-then-rest_from-lt2
returns-then-rest_from-lt2 c = (fixed_at-none 2 _ _ (omega arith), search rules)

pub returns : goal.returns
returns c =
    let a = c.args in
    (rw c.two_at-value.ensures.0 (fixed_at-two a.s.now a.at (omega arith)), c.two_at-value.ensures.1)
