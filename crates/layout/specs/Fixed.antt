-- Numbers of a fixed count of bytes, high byte first; and signed ones of 64 bits, in two's complement.
use Rattle.std.specs.Prelude.{ℕ, zero, suc, ◌+◌, ◌-◌, ◌*◌, ◌/◌, ◌%◌, ◌^◌, cond, [], ◌∷◌, ltb, ℤ, pos, negsuc, length}
use Rattle.layout.specs.Bytes.{Bytes}

-- the n low bytes of v
unfoldable pub big : ℕ → ℕ → Bytes
big zero v = []
big (suc n) v = v / 256 ^ n % 256 ∷ big n v

-- the number that bytes spell
unfoldable pub unbig : Bytes → ℕ
unbig [] = 0
unbig (b ∷ bs) = b * 256 ^ length bs + unbig bs

-- the 64 bits of a signed number, and back; `negsuc n` is -(n + 1)
unfoldable pub bits : ℤ → ℕ
bits (pos n) = n
bits (negsuc n) = 2 ^ 64 - suc n

unfoldable pub unbits : ℕ → ℤ
unbits b = cond (ltb b (2 ^ 63)) (pos b) (negsuc (2 ^ 64 - suc b))
