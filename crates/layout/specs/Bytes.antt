-- A buffer, a block, a key or a value is a list of bytes, each a number.
use Rattle.std.specs.Prelude.{ℕ, List}

abbrev pub Bytes : Type 0
Bytes = List ℕ
