-- What the contracts and the theorems say by the laws of `Key`: definitions.
use Rattle.std.specs.Prelude.{◌<◌, ◌≡◌, [], ◌∷◌, ◌⊎◌}
use Rattle.layout.specs.Key.{Key}

-- a is at most b
abbrev pub AtMost : Key → Key → Type 0
AtMost [] ys = Unit {0}
AtMost (x ∷ xs) [] = ⊥
AtMost (x ∷ xs) (y ∷ ys) = (x < y) ⊎ ((x ≡ y) × AtMost xs ys)
