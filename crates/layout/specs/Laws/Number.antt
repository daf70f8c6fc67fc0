-- What the contracts and the theorems say by the laws of `Number`: definitions.
use Prim.Native.Nat.{ℕ, ◌+◌, ◌*◌, ◌≤◌}
use Rattle.std.specs.Prelude.{◌≡◌, List}
use Rattle.layout.specs.Trailer.{Region}
use Rattle.layout.specs.Number.{ended_from, ended_by}

pub record Counting (d : List ℕ) (g : Region) (at len n : ℕ) : Type 0 where
  pub rest : (stop left : ℕ) → at ≤ stop → stop ≤ at + left → ended_by d g stop ≡ n + ended_from left d g stop at len
  pub far : g.start + 12 * n ≤ at
  pub none : n ≡ 0 → at ≡ g.start
