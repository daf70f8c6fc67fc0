-- What the contracts and the theorems say by the laws of `Order`: definitions.
use Rattle.std.specs.Prelude.{ℕ, Bool, true, false, ltb}
use Rattle.layout.specs.Key.{Ordering, less, equal, greater}

-- how a row's key stands to the one before it, and their numbers: greater may follow, smaller may not, and of equal keys the number must be smaller
abbrev pub may_by : Ordering → ℕ → ℕ → Bool
may_by less before seq = false
may_by equal before seq = ltb seq before
may_by greater before seq = true
