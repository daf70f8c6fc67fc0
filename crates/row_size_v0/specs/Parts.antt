-- What the private function `value_len_size` answers: of a row of this kind, the bytes of its value's length.
use Rattle.std.specs.Prelude.{ℕ}
use Rattle.layout.specs.Row.{Kind, value, tombstone, merge}

abbrev pub length_size : Kind → ℕ
length_size value = 4
length_size tombstone = 0
length_size merge = 4
