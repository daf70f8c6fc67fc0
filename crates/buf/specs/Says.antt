-- What the read of a signed number says: the number and the place after it, or the number of the refusal. No two answers say the same.
use Rattle.std.specs.Prelude.{◌≡◌, ℤ, Result}
use Rattle.std.proofs.Common.{ap}
use Rattle.layout.specs.Res.{Res}
use Rattle.layout.specs.Place.{SignedAt, signed}
use Rattle.basics.specs.Answers.{says, says-one}
use Rattle.basics.specs.declared.Read.{Read}
use Rattle.basics.specs.declared.Refusal.{Refusal}

abbrev pub signed_from : Read ℤ → SignedAt
signed_from r = signed r.value r.next

abbrev pub says_signed : Result (Read ℤ) Refusal → Res SignedAt
says_signed = says signed_from

-- ---- one to one

signed_from-one : (a b : Read ℤ) → signed_from a ≡ signed_from b → a ≡ b
signed_from-one a b e = ap (λ (x : SignedAt). record { value = x.val; next = x.next }) e

pub says_signed-one : (a b : Result (Read ℤ) Refusal) → says_signed a ≡ says_signed b → a ≡ b
says_signed-one = says-one signed_from signed_from-one
