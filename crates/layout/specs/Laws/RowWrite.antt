-- What the contracts and the theorems say by the laws of `RowWrite`: definitions.
use Rattle.std.specs.Prelude.{ℕ, ◌≤◌, ◌≡◌}
use Rattle.layout.specs.Res.{ok}
use Rattle.layout.specs.Limits.{max_key, max_value}
use Rattle.layout.specs.Row.{length_tests}

-- what a size that is answered tells, whatever the format
pub record Tested (key_len value_len answer n : ℕ) : Type 0 where
  pub tested : length_tests key_len value_len ≡ ok tt
  pub key-small : key_len ≤ max_key
  pub value-small : value_len ≤ max_value
  pub size : n ≡ answer
