-- `is_restart_point` answers whether the row's number is a multiple of the interval: where the restarts are counted right, it is where their intervals are full.
use native.Mathlib.Omega.{arith}
use Rattle.finish_in_place_v2.proofs.Counts.{product_small, at-restart}
use Rattle.build_in_place_v2.proofs.is_restart_point.Goals as goal

pub overflow_mul-result : goal.overflow_mul-result
overflow_mul-result c = omega (arith, product_small c.requires.le_restart_interval.2 c.requires.le_restart_interval.1)

pub returns : goal.returns
returns c = at-restart _ _ c.requires.le_restart_interval.0 _ c.requires.restarts_value
