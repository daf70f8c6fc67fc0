-- A varint: an unsigned 32-bit number, seven bits a byte, lowest first, the top bit set on all but the last byte.
use Rattle.std.specs.Prelude.{ℕ, zero, suc, ◌+◌, ◌-◌, ◌*◌, ◌/◌, ◌%◌, cond, [], ◌∷◌, ltb, eqb}
use Rattle.std.specs.Int.Count.{count_leading_zeros}
use Rattle.layout.specs.Bytes.{Bytes}
use Rattle.layout.specs.Res.{Res, ok, refuse, bind, ◌when◌else◌}

-- ---- the writer uses the fewest bytes; `room` more may follow the first

unfoldable pub varint_in : ℕ → ℕ → Bytes
varint_in zero v = v ∷ []
varint_in (suc room) v = cond (ltb v 128) (v ∷ []) ((128 + v % 128) ∷ varint_in room (v / 128))

unfoldable pub varint : ℕ → Bytes
varint v = varint_in 4 v

-- a number of b significant bits takes the whole part of (b + 6) / 7 bytes, and zero takes one
abbrev pub significant_bits : ℕ → ℕ
significant_bits v = 32 - count_leading_zeros 32 v

unfoldable pub varint_length : ℕ → ℕ
varint_length v = cond (eqb v 0) 1 ((significant_bits v + 6) / 7)

-- ---- the reader takes at most five bytes, and no spelling but the writer's (`varint-read-is-written`)

-- a number, and how many bytes spelled it
pub record Num : Type 0 where
  pub val : ℕ
  pub len : ℕ

abbrev pub num : ℕ → ℕ → Num
num v n = record { val = v; len = n }

-- the number that the bytes after b spell, put above the low seven bits of b; where they spell 0 the number needs none of them: 10
abbrev pub above : ℕ → Num → Res Num
above b r = 10 when eqb r.val 0 else ok (num (b - 128 + 128 * r.val) (suc r.len))

-- 9 where the input ends, 10 for a fifth byte above 15
unfoldable pub read_varint_in : ℕ → Bytes → Res Num
read_varint_in room [] = refuse 9
read_varint_in zero (b ∷ bs) = cond (ltb 15 b) (refuse 10) (ok (num b 1))
read_varint_in (suc room) (b ∷ bs) = cond (ltb b 128) (ok (num b 1)) (bind (read_varint_in room bs) (above b))

unfoldable pub read_varint : Bytes → Res Num
read_varint s = read_varint_in 4 s
