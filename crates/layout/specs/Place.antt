-- Numbers at a place of the data: the number, and where what follows it starts. What a lent buffer holds after bytes are put at a place of it.
use Rattle.std.specs.Prelude.{ℕ, ◌+◌, cond, ◌++◌, ltb, ℤ, length, take, drop}
use Rattle.layout.specs.Bytes.{Bytes}
use Rattle.layout.specs.Res.{Res, ok, bind, ◌when◌else◌}
use Rattle.layout.specs.Varint.{read_varint, Num}
use Rattle.layout.specs.Fixed.{unbig, unbits}

pub record NumAt : Type 0 where
  pub val : ℕ
  pub next : ℕ

abbrev pub num_at : ℕ → ℕ → NumAt
num_at v n = record { val = v; next = n }

abbrev pub placed : ℕ → Num → Res NumAt
placed at n = ok (num_at n.val (at + n.len))

-- a varint
unfoldable pub varint_at : Bytes → ℕ → Res NumAt
varint_at d at = bind (read_varint (drop at d)) (placed at)

-- a number of n bytes, high byte first
unfoldable pub fixed_at : ℕ → Bytes → ℕ → Res NumAt
fixed_at n d at = 9 when ltb (length d) (at + n) else ok (num_at (unbig (take n (drop at d))) (at + n))

-- a signed number: eight bytes, read as 64 bits in two's complement
pub record SignedAt : Type 0 where
  pub val : ℤ
  pub next : ℕ

abbrev pub signed : ℤ → ℕ → SignedAt
signed z n = record { val = z; next = n }

abbrev pub as_signed : NumAt → Res SignedAt
as_signed n = ok (signed (unbits n.val) n.next)

abbrev pub signed_at : Bytes → ℕ → Res SignedAt
signed_at d at = bind (fixed_at 8 d at) as_signed

-- ---- what is written

-- a list with w in the place of as many elements from `at` on
unfoldable pub splice : Bytes → ℕ → Bytes → Bytes
splice xs at w = take at xs ++ (w ++ drop (at + length w) xs)

-- the place after w, put at `at` of a buffer of `room` bytes: 6 where it does not hold it
unfoldable pub put_at : ℕ → ℕ → Bytes → Res ℕ
put_at room at w = 6 when ltb room (at + length w) else ok (at + length w)

-- the buffer after that: a refusal writes nothing
unfoldable pub after_put : Bytes → ℕ → Bytes → Bytes
after_put buf at w = cond (ltb (length buf) (at + length w)) buf (splice buf at w)
