use Prim.Native.Nat.{ℕ}
use mathlib.Core.Path.{ap, ◌∙◌}
use lib.ListN.{length, take}
use Rattle.block_regions_v2.specs.Climb.{based_filling}
use Rattle.block_regions_v2.specs.Rows.{clipped-length}
use Rattle.block_regions_v2.proofs.rebuild_from.Goals as goal

-- `rebuild_from` keeps its promise: the target's first bytes are those that the row to start from shares, and the rows from there on make the key.

pub returns : goal.returns
returns c =
    let a = c.args in
    let put = c.put_clipped.ensures in
    λ before b room.
    c.rebuild_key.ensures before (based_filling _ _ _ _ _ _ before b a.key.now room put)
    ∙ ap (λ (n : ℕ). take n before) (ap length put ∙ clipped-length a.key.now 0 a.target.now)
