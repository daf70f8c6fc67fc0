-- The definitions of numbers case by case, as code that writes them byte by byte meets them: one equation for each case.
use Rattle.std.specs.Prelude.{ℕ, zero, suc, ◌+◌, ◌-◌, ◌*◌, ◌/◌, ◌%◌, ◌^◌, ◌<◌, ◌≤◌, ◌≡◌, refl, [], ◌∷◌, pos, negsuc}
use Rattle.std.proofs.Common.{ap, sym, ◌∙◌, pow-suc, sub-one, arith, pow-add, lt-ltb, le-ltb, eq-eqb, ne_eqb}
use Rattle.layout.specs.Varint.{varint_in, varint, significant_bits, varint_length}
use Rattle.layout.specs.Fixed.{big, bits}

-- ---- a varint: its last byte, and one that others follow

pub varint_in-last : (room v : ℕ) → v < 128 → varint_in room v ≡ v ∷ []
unfolding varint_in
varint_in-last zero v h = refl
varint_in-last (suc room) v h = rw (lt-ltb v 128 h)

pub varint_in-more : (room v : ℕ) → 128 ≤ v → varint_in (suc room) v ≡ (128 + v % 128) ∷ varint_in room (v / 128)
unfolding varint_in
varint_in-more room v h = rw (le-ltb v 128 h)

pub varint-whole : (v : ℕ) → varint v ≡ varint_in 4 v
unfolding varint
varint-whole v = refl

pub varint-small : (v : ℕ) → v < 128 → varint v ≡ v ∷ []
varint-small v h = varint-whole v ∙ varint_in-last 4 v h

-- ---- how long it is

pub varint_length-zero : (v : ℕ) → v ≡ 0 → varint_length v ≡ 1
unfolding varint_length
varint_length-zero v e = rw (eq-eqb v 0 e)

pub varint_length-some : (v : ℕ) → (v ≡ 0 → ⊥) → varint_length v ≡ (significant_bits v + 6) / 7
unfolding varint_length
varint_length-some v n = rw (ne_eqb v 0 n)

-- ---- a fixed number: its high byte, which a shift brings down, and the bytes below it

high_byte : (n : ℕ) → 256 ^ n ≡ 2 ^ (8 * n)
high_byte zero = refl
high_byte (suc n) = pow-suc 256 n ∙ rw (high_byte n) (sym (ap (λ (k : ℕ). 2 ^ k) (omega arith) ∙ pow-add 2 (8 * n) 8))

pub big-none : (v : ℕ) → big 0 v ≡ []
unfolding big
big-none v = refl

pub big-step : (n v : ℕ) → 0 < n → big n v ≡ (v / 2 ^ (8 * (n - 1)) % 256) ∷ big (n - 1) v
unfolding big
big-step zero v h = absurd (omega arith)
big-step (suc n) v h = rw (sub-one (suc n)) (ap (λ (k : ℕ). (v / k % 256) ∷ big n v) (high_byte n))

-- ---- the bits of a signed number

pub bits_pos : (n : ℕ) → bits (pos n) ≡ n
unfolding bits
bits_pos n = refl

pub bits-neg : (n : ℕ) → bits (negsuc n) ≡ 2 ^ 64 - suc n
unfolding bits
bits-neg n = refl
