-- The builder as `layout` has it.
use Rattle.std.specs.Prelude.{ℕ, List, replicate}
use Rattle.layout.specs.Limits.{max_key}
use Rattle.layout.specs.Builder.{Builder}
use Rattle.state_v2.specs.Says.{view_from}
use Rattle.state_v2.specs.declared.State.{State}
use Rattle.block_v2.specs.declared.BlockBuilderV2.{BlockBuilderV2}

abbrev pub view_of : BlockBuilderV2 → Builder
view_of b = view_from b.state b.last_key

-- the builder of these numbers, over these bytes of the last key and whatever follows them
abbrev pub builder_from : State → List ℕ → BlockBuilderV2
builder_from s last = record { state = s; last_key = last }

abbrev pub no_key : List ℕ
no_key = replicate max_key 0
