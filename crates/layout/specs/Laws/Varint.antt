-- What the contracts and the theorems say by the laws of `Varint`: definitions.
use Rattle.layout.specs.Res.{Res, ok, refuse}
use Rattle.layout.specs.Varint.{Num}

-- it refuses with 9 or 10 and nothing else
pub data VarintAnswer : Res Num → Type 0 where
  reads : (r : Num) → VarintAnswer (ok r)
  ends : VarintAnswer (refuse 9)
  spells_wrong : VarintAnswer (refuse 10)
