-- `new_with_restart_interval` keeps its promise: the numbers are those of `new_state`, and the last key's bytes are zeros in any case.
use mathlib.Core.Path.{refl}
use Rattle.block_v2.proofs.BlockBuilderV2.new_with_restart_interval.Goals as goal

pub returns : goal.returns
returns c =
    let m = c.new_state-new.ensures in
    record { answer = m.answer; view = m.view _; key-bytes = refl }
