-- `is_miscounted` keeps its promise: restarts are counted right where their intervals hold all rows and the last holds some; each exit is one law of `Counts`.
use native.Mathlib.Omega.{arith}
use Rattle.finish_in_place_v2.proofs.Counts.{product_small, miscounts, counts}
use Rattle.finish_in_place_v2.proofs.is_miscounted.Goals as goal

pub overflow_mul-full : goal.overflow_mul-full
overflow_mul-full c = omega (arith, product_small c.requires.2 c.requires.1)

pub returns-then-full-rows : goal.returns-then-full-rows
returns-then-full-rows c = miscounts _ _ c.requires.0 _ c.if-full-rows.true

pub returns : goal.returns
returns c = counts _ _ c.requires.0 _ c.if-full-rows.false
