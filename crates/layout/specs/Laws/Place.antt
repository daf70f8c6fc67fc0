-- What the contracts and the theorems say by the laws of `Place`: definitions.
use Rattle.std.specs.Prelude.{ℕ, ◌+◌, ◌*◌, List, get_or}

-- two bytes, and four, high byte first
abbrev pub pair_at : List ℕ → ℕ → ℕ
pair_at d at = get_or d at 0 * 256 + get_or d (at + 1) 0

abbrev pub four_at : List ℕ → ℕ → ℕ
four_at d at = pair_at d at * 65536 + pair_at d (at + 2)
