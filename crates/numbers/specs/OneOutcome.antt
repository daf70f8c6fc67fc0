-- Each promise admits one outcome: two results that both keep it are equal.
use Rattle.std.specs.Prelude.{ℕ, ◌≡◌, ℤ}
use Rattle.std.proofs.Common.{sym, ◌∙◌}
use Rattle.numbers.specs.Promise.{Rests, TakesLeast, ToBits, FromBits}

pub rest-from-settled : (len at m n : ℕ) → Rests len at m → Rests len at n → m ≡ n
rest-from-settled len at m n p q = p ∙ sym q

pub least-settled : (a b m n : ℕ) → TakesLeast a b m → TakesLeast a b n → m ≡ n
least-settled a b m n p q = p ∙ sym q

pub to-bits-settled : (z : ℤ) (m n : ℕ) → ToBits z m → ToBits z n → m ≡ n
to-bits-settled z m n p q = p ∙ sym q

pub from-bits-settled : (b : ℕ) (y z : ℤ) → FromBits b y → FromBits b z → y ≡ z
from-bits-settled b y z p q = p ∙ sym q
