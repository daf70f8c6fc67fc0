-- What each public function promises: equations to the definitions of `layout`, that settle each number answered.
use Rattle.std.specs.Prelude.{ℕ, ◌^◌, ◌<◌, ◌≡◌, List, ℤ, Result}
use Rattle.layout.specs.Res.{Res, ok, refuse}
use Rattle.layout.specs.Place.{NumAt, fixed_at, signed_at}
use Rattle.basics.specs.Answers.{says_num}
use Rattle.basics.specs.declared.Read.{Read}
use Rattle.basics.specs.declared.Refusal.{Refusal}
use Rattle.buf.specs.Says.{says_signed}

abbrev pub ReadsWord : List ℕ → ℕ → Result (Read ℕ) Refusal → Type 0
ReadsWord s at r = says_num r ≡ fixed_at 8 s at

abbrev pub ReadsSigned : List ℕ → ℕ → Result (Read ℤ) Refusal → Type 0
ReadsSigned s at r = says_signed r ≡ signed_at s at

-- the number that was read, or 0
abbrev pub or_zero : Res NumAt → ℕ
or_zero (ok n) = n.val
or_zero (refuse n) = 0

abbrev pub ReadsEight : List ℕ → ℕ → ℕ → Type 0
ReadsEight s at r = r ≡ or_zero (fixed_at 8 s at)

-- ---- numbers of fewer bytes: n of them spell a number below 256 ^ n

abbrev pub ReadsNarrow : ℕ → List ℕ → ℕ → Result (Read ℕ) Refusal → Type 0
ReadsNarrow n s at r = (says_num r ≡ fixed_at n s at) × (or_zero (says_num r) < 256 ^ n)

abbrev pub ReadsBytes : ℕ → List ℕ → ℕ → ℕ → Type 0
ReadsBytes n s at r = (r ≡ or_zero (fixed_at n s at)) × (r < 256 ^ n)
