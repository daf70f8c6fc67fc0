-- What the contracts and the theorems say by the laws of `Compare`: definitions.
use Rattle.std.specs.Prelude.{Bool, true, false}
use Rattle.layout.specs.Key.{Ordering, less, equal, greater}

abbrev pub is_less : Ordering → Bool
is_less less = true
is_less equal = false
is_less greater = false

abbrev pub is_equal : Ordering → Bool
is_equal less = false
is_equal equal = true
is_equal greater = false
