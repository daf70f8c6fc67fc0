-- What the contracts and the theorems say by the laws of `Encoded`: definitions.
use Rattle.std.specs.Prelude.{ℕ, ◌≤◌, ◌≡◌, List, length}
use Rattle.layout.specs.Limits.{max_value}
use Rattle.layout.specs.Row.{Fields, value_of}
use Rattle.layout.specs.Laws.Row.{KeyOk}

pub record Encoded (bytes : List ℕ) (prev_len shared : ℕ) (suffix : List ℕ) (f : Fields) (w : List ℕ) : Type 0 where
  pub is : bytes ≡ w
  pub shares : shared ≤ prev_len
  pub key-ok : KeyOk shared (length suffix)
  pub value-fits : length (value_of f) ≤ max_value
