-- `match_down` keeps its promise: a row past the match is as the key before was, of any other the suffix is held against what is left of the target.
-- Each exit is one law.
use native.Mathlib.Omega.{arith}
use Rattle.match_keys.specs.Laws.{down-past, down-over, down-on, down_fits}
use Rattle.match_keys.proofs.match_down.Goals as goal

pub returns-then-matched-shared : goal.returns-then-matched-shared
returns-then-matched-shared c = down-past _ _ _ _ _ c.if-matched-shared.true

pub returns-then-target-shared : goal.returns-then-target-shared
returns-then-target-shared c = down-over _ _ _ _ c.if-matched-shared.false c.if-target-shared.true _

pub overflow_add-result : goal.overflow_add-result
overflow_add-result c = let a = c.args in omega (arith, down_fits a.target.now a.suffix.now a.shared c.match_of-left.result c.if-target-shared.false c.match_of-left.ensures)

pub returns : goal.returns
returns c = down-on _ _ _ _ c.if-matched-shared.false _ _ c.match_of-left.ensures
