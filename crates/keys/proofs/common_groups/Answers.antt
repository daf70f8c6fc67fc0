use native.Mathlib.Omega.{arith}
use Rattle.keys.proofs.Groups.{begins-eight}
use Rattle.keys.proofs.common_groups.Goals as goal

pub loop-n-preserved : goal.loop-n-preserved
loop-n-preserved c = (
  begins-eight _ _ _ c.loop-n.invariant.0 (omega arith) (omega arith) (λ i. omega (arith, c.type_inv.a i)) (λ i. omega (arith, c.type_inv.b i))
      c.eight-x.ensures c.eight-y.ensures c.if-x-y.false,
  omega arith,
)
