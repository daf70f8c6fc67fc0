-- `is_empty` answers what `is_empty_state` does of the builder's numbers, which tells this whatever the first key's bytes are.
use Rattle.block_v1.proofs.BlockBuilderV1.is_empty.Goals as goal

pub returns : goal.returns
returns c = c.is_empty_state.ensures _
