-- What the private functions write: a row's bytes before its flags and times, in two parts.
use Rattle.std.specs.Prelude.{ℕ, List, ◌++◌}
use Rattle.layout.specs.Fixed.{big}
use Rattle.layout.specs.Varint.{varint}

abbrev pub length_bytes : ℕ → ℕ → ℕ → List ℕ
length_bytes shared suffix_len value_len = varint shared ++ (varint suffix_len ++ varint value_len)

abbrev pub body_bytes : List ℕ → List ℕ → ℕ → List ℕ
body_bytes suffix value seq = suffix ++ (value ++ big 8 seq)
