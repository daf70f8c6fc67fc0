-- What the private function that ends a number answers.
use Rattle.std.specs.Prelude.{ℕ, ◌+◌, ◌*◌, cond, eqb, Result, Ok, Err}
use Rattle.basics.specs.declared.Refusal.TheVariants.{VarintTooLarge}
use Rattle.basics.specs.declared.Read.{Read}
use Rattle.basics.specs.declared.Refusal.{Refusal}

-- the low bytes' number, the weight of the last byte, that byte, and the place after it
abbrev pub ended_by : ℕ → ℕ → ℕ → ℕ → Result (Read ℕ) Refusal
ended_by acc w b next = cond (eqb b 0) (Err VarintTooLarge) (Ok (record { value = acc + w * b; next = next }))
