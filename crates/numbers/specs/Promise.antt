-- What each public function promises: equations to the definitions of `layout`, that settle each number answered.
use Rattle.std.specs.Prelude.{ℕ, ◌-◌, min, ◌≡◌, ℤ}
use Rattle.layout.specs.Fixed.{bits, unbits}

-- how many of `len` bytes stand from `at` on
abbrev pub Rests : ℕ → ℕ → ℕ → Type 0
Rests len at r = r ≡ len - at

abbrev pub TakesLeast : ℕ → ℕ → ℕ → Type 0
TakesLeast a b r = r ≡ min a b

-- the 64 bits of a signed number in two's complement
abbrev pub ToBits : ℤ → ℕ → Type 0
ToBits z r = r ≡ bits z

-- the signed number that has these bits
abbrev pub FromBits : ℕ → ℤ → Type 0
FromBits n r = r ≡ unbits n
