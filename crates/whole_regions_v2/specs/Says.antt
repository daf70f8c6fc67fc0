-- What each answer says: the values, or the number of the refusal. No two say the same.
use Rattle.std.specs.Prelude.{ℕ, ◌≡◌, Result}
use Rattle.std.proofs.Common.{ap}
use Rattle.layout.specs.Res.{Res}
use Rattle.basics.specs.Answers.{says, says-one}
use Rattle.basics.specs.declared.Refusal.{Refusal}
use Rattle.block_regions_v2.specs.Regions.{Counted, counted}
use Rattle.whole_regions_v2.specs.declared.Last.{Last}

abbrev pub last_from : Last → Counted ℕ
last_from l = counted l.at l.number

abbrev pub says_last : Result Last Refusal → Res (Counted ℕ)
says_last = says last_from

-- ---- one to one

last_from-one : (a b : Last) → last_from a ≡ last_from b → a ≡ b
last_from-one a b e = ap (λ (x : Counted ℕ). record { at = x.what; number = x.number }) e

pub says_last-one : (a b : Result Last Refusal) → says_last a ≡ says_last b → a ≡ b
says_last-one = says-one last_from last_from-one
