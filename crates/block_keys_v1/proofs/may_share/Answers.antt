-- `may_share` keeps its promise: row 0 is the one restart.
use Prim.Native.Nat.{ℕ}
use mathlib.Core.Path.{◌≡◌, refl, ◌∙◌}
use lib.Dec.{eqb}
use mathlib.Core.Bool.{Bool, true, false, cond}
use Rattle.layout.specs.RowRead.{may_share}
use Rattle.block_keys_v1.proofs.may_share.Goals as goal

same : (restart : Bool) (n : ℕ) → may_share restart n ≡ cond restart 0 n
same true n = refl
same false n = refl

pub returns : goal.returns
returns c = c.may_share.ensures ∙ same (eqb c.args.index 0) c.args.first_len
