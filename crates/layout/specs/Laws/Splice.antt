-- What the contracts and the theorems say by the laws of `Splice`: definitions.
use Rattle.std.proofs.Math.Path.{◌≡◌}
use Rattle.std.specs.Prelude.{ℕ, ◌+◌, ◌≤◌}
use mathlib.Core.List.{List}
use Rattle.std.proofs.Math.ListN.{length}
use Rattle.layout.specs.Place.{splice}

-- ys is xs with w written at `at`, which it had room for, and n is the place after it
pub record Wrote (xs : List ℕ) (at : ℕ) (w ys : List ℕ) (n : ℕ) : Type 0 where
  pub is : ys ≡ splice xs at w
  pub next : n ≡ at + length w
  pub room : n ≤ length xs
