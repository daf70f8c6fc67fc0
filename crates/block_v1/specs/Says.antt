-- The builder as `layout_v1` has it.
use Rattle.std.specs.Prelude.{ℕ, List, replicate}
use Rattle.layout.specs.Limits.{max_key}
use Rattle.layout_v1.specs.Builder.{Builder}
use Rattle.state_v1.specs.Says.{view_from}
use Rattle.state_v1.specs.declared.State.{State}
use Rattle.block_v1.specs.declared.BlockBuilderV1.{BlockBuilderV1}

abbrev pub view_of : BlockBuilderV1 → Builder
view_of b = view_from b.state b.first_key

-- the builder of these numbers, over these bytes of the first key and whatever follows them
abbrev pub builder_from : State → List ℕ → BlockBuilderV1
builder_from s first = record { state = s; first_key = first }

abbrev pub no_key : List ℕ
no_key = replicate max_key 0
