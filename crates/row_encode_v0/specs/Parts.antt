-- What the private functions write: of a row's bytes those before its flags, and a value after its length. Its flags and times are those of `row_flags`.
use Rattle.std.specs.Prelude.{ℕ, List, ◌++◌, length}
use Rattle.layout.specs.Fixed.{big}

abbrev pub key_bytes : ℕ → List ℕ → ℕ → List ℕ
key_bytes shared suffix seq = big 2 shared ++ (big 2 (length suffix) ++ (suffix ++ big 8 seq))

abbrev pub held_bytes : List ℕ → List ℕ
held_bytes v = big 4 (length v) ++ v
