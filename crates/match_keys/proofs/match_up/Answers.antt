-- `match_up` keeps its promise: a row past the match is as the key before was, of any other the suffix is held against what is left of the target.
-- Each exit is one law.
use native.Mathlib.Omega.{arith}
use Rattle.match_keys.specs.Laws.{up-past, up-over, up-on, up_fits}
use Rattle.match_keys.proofs.match_up.Goals as goal

pub returns-then-matched-shared : goal.returns-then-matched-shared
returns-then-matched-shared c = up-past _ _ _ _ c.if-matched-shared.true

pub returns-then-target-shared : goal.returns-then-target-shared
returns-then-target-shared c = up-over _ _ _ _ c.if-matched-shared.false c.if-target-shared.true

pub overflow_add-result : goal.overflow_add-result
overflow_add-result c = let a = c.args in omega (arith, up_fits a.target.now a.suffix.now a.shared c.match_of-rest.result c.if-target-shared.false c.match_of-rest.ensures)

pub returns : goal.returns
returns c = up-on _ _ _ _ c.if-matched-shared.false _ c.match_of-rest.ensures
