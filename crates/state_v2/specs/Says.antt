-- A builder's numbers beside the bytes of its last key, as `layout` has them.
use Rattle.std.specs.Prelude.{ℕ, List, take}
use Rattle.layout.specs.Builder.{Builder}
use Rattle.state_v2.specs.declared.State.{State}

-- the builder of these numbers and of the bytes that its last key lies in
abbrev pub view_from : State → List ℕ → Builder
view_from s last =
    record {
      block_size = s.block_size;
      restart_interval = s.restart_interval;
      used = s.used;
      restarts = s.restarts;
      counter = s.counter;
      last_key_len = s.last_key_len;
      last_key_of = take s.last_key_len last;
    }

abbrev pub state_from : Builder → State
state_from v =
    record {
      block_size = v.block_size;
      restart_interval = v.restart_interval;
      used = v.used;
      restarts = v.restarts;
      counter = v.counter;
      last_key_len = v.last_key_len;
    }
