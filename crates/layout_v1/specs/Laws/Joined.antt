-- What the contracts and the theorems say by the laws of `Joined`: definitions.
use Rattle.std.specs.Prelude.{ℕ, List, ◌++◌, take, drop}
use Rattle.layout.specs.Key.{Key, Ordering, less, equal, greater}

abbrev pub flipped : Ordering → Ordering
flipped less = greater
flipped equal = equal
flipped greater = less

-- its first s bytes, then n from a place
abbrev pub key_at : List ℕ → ℕ → ℕ → ℕ → ℕ → Key
key_at d f s at n = take s (drop f d) ++ take n (drop at d)
