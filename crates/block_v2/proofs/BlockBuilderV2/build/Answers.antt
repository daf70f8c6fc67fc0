-- `build` keeps its promise: 18, 7, 6 or the block's length, and the builder is given back as it came.
-- `build_in_place` works on the builder's numbers, and promises this whatever the last key's bytes are; so also for those of the builder's own array.
use Rattle.block_v2.proofs.Writes.{builds}
use Rattle.block_v2.proofs.BlockBuilderV2.build.Goals as goal

pub returns : goal.returns
returns c = builds _ _ _ c.build_in_place-answer.ensures
