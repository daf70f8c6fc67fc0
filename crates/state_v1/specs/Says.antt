-- A builder's numbers beside the bytes of its first key, as `layout_v1` has them.
use Rattle.std.specs.Prelude.{ℕ, List}
use Rattle.layout_v1.specs.Builder.{Builder, kept_builder}
use Rattle.state_v1.specs.declared.State.{State}

-- the builder of these numbers and of the bytes that its first key lies in
abbrev pub view_from : State → List ℕ → Builder
view_from s first = kept_builder s.block_size s.used s.rows s.first_key_len first

abbrev pub state_from : Builder → State
state_from v = record { block_size = v.block_size; used = v.used; rows = v.rows; first_key_len = v.first_key_len }
