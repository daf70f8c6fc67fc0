-- What the contracts and the theorems say by the laws of `Codec`: definitions.
use Rattle.std.specs.Prelude.{ℕ, ◌+◌, List}
use Rattle.std.proofs.Math.ListN.{length}
use Rattle.layout.specs.Row.{Fields, if_so, present}
use Rattle.layout.specs.RowRead.{held_as, RowRead}
use Rattle.layout_v1.specs.Row.{row_bytes}

-- where the times start, where the value's length would, and where the value does
abbrev pub times_start : ℕ → List ℕ → ℕ
times_start at suffix = at + 2 + 2 + length suffix + 9

abbrev pub held_start : ℕ → List ℕ → Fields → ℕ
held_start at suffix f = times_start at suffix + if_so (present f.expire) 8 + if_so (present f.create) 8

-- it ends at `next`
abbrev pub places_to : ℕ → ℕ → List ℕ → Fields → ℕ → RowRead
places_to at shared suffix f next =
    record {
      start = at;
      next = next;
      shared = shared;
      suffix_at = at + 2 + 2;
      suffix_len = length suffix;
      held = held_as f.kind (held_start at suffix f + 4) (length f.val);
      seq = f.seq;
      expire = f.expire;
      create = f.create;
    }

abbrev pub places_of : ℕ → ℕ → List ℕ → Fields → RowRead
places_of at shared suffix f = places_to at shared suffix f (at + length (row_bytes shared suffix f))
