-- What each public function promises: equations to the definitions of `layout`, that settle each number answered. A writer's is that of `buf_mut`.
use Rattle.std.specs.Prelude.{ℕ, ◌≡◌, length}
use Rattle.layout.specs.Varint.{varint, varint_length}

-- by the rule of significant bits, and as many as the bytes that are written
pub record VarintLength (v r : ℕ) : Type 0 where
  pub rule : r ≡ varint_length v
  pub bytes : r ≡ length (varint v)
