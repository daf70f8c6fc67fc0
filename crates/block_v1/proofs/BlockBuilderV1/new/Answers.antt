-- `new` keeps its promise: the numbers are those of `new_state`, and the first key's bytes are zeros in any case.
use mathlib.Core.Path.{refl}
use Rattle.block_v1.proofs.BlockBuilderV1.new.Goals as goal

pub returns : goal.returns
returns c =
    let m = c.new_state-made.ensures in
    record { answer = m.answer; view = m.view _; key-bytes = refl }
