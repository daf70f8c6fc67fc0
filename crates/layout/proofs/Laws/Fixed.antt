-- Fixed numbers: bytes written read back, whatever follows them; a signed number's bits read back as the number.
use Rattle.std.specs.Prelude.{ℕ, zero, suc, ◌-◌, ◌%◌, ◌^◌, ◌<◌, ◌≤◌, ◌≡◌, refl, List, ◌++◌, ℤ, pos, negsuc, length, take, drop}
use Rattle.std.proofs.Common.{ap, sym, ◌∙◌, arith, mod-eq_of_lt, take_at, drop_at, lt-ltb, le-ltb}
use Rattle.std.proofs.Math.Nat.{pow-succ', one-le-pow}
use Rattle.std.proofs.Math.Arith.{mod-mul}
use Rattle.std.specs.Int.Signed.{mag}
use Rattle.layout.specs.Fixed.{big, unbig, bits, unbits}

pub length-big : (n v : ℕ) → length (big n v) ≡ n
unfolding big
length-big zero v = refl
length-big (suc n) v = ap suc (length-big n v)

pub unbig-big_mod : (n v : ℕ) → unbig (big n v) ≡ v % 256 ^ n
unfolding big unbig
unbig-big_mod zero v = omega arith
unbig-big_mod (suc n) v = rw (length-big n v, unbig-big_mod n v, pow-succ' 256 n) (sym (mod-mul v {m = 256} {c = 256 ^ n} (omega arith) (one-le-pow n 256 (omega arith))))

pub unbig-big : (n v : ℕ) → v < 256 ^ n → unbig (big n v) ≡ v
unbig-big n v h = unbig-big_mod n v ∙ mod-eq_of_lt h

-- at the start of more bytes
pub unbig-take-big : (n v : ℕ) (rest : List ℕ) → v < 256 ^ n → unbig (take n (big n v ++ rest)) ≡ v
unbig-take-big n v rest h = rw (take_at (big n v) rest n (length-big n v)) (unbig-big n v h)

pub drop-big : (n v : ℕ) (rest : List ℕ) → drop n (big n v ++ rest) ≡ rest
drop-big n v rest = drop_at (big n v) rest n (length-big n v)

-- ---- signed

pub bits_fit : (z : ℤ) → mag z < 2 ^ 63 → bits z < 2 ^ 64
unfolding bits
bits_fit (pos n) h = omega arith
bits_fit (negsuc n) h = omega arith

pub unbits-bits : (z : ℤ) → mag z < 2 ^ 63 → unbits (bits z) ≡ z
unfolding bits unbits
unbits-bits (pos n) h = rw (lt-ltb n (2 ^ 63) h)
unbits-bits (negsuc n) h = rw (le-ltb (2 ^ 64 - suc n) (2 ^ 63) (omega arith)) (ap negsuc (omega arith))

-- the two cases of the pattern
pub unbits-low : (b : ℕ) → b < 2 ^ 63 → unbits b ≡ pos b
unfolding unbits
unbits-low b h = rw (lt-ltb b (2 ^ 63) h)

pub unbits-high : (b : ℕ) → 2 ^ 63 ≤ b → unbits b ≡ negsuc (2 ^ 64 - suc b)
unfolding unbits
unbits-high b h = rw (le-ltb b (2 ^ 63) h)
