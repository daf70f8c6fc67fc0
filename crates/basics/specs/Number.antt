-- The number of each refusal, and that no two have one number.
use Rattle.std.specs.Prelude.{ℕ, cond, ◌≡◌, refl, eqb}
use Rattle.std.proofs.Common.{sym, ap, ◌∙◌}
use Rattle.basics.specs.declared.Refusal.{Refusal}
use Rattle.basics.specs.declared.Refusal.TheVariants.{EmptyKey, KeyTooLong, ValueTooLong, RowDoesNotFit, RestartTooFar, BufferTooSmall, EmptyBlock, BadSettings, InputEnds, VarintTooLarge, UnknownFlags, TombstoneWithMerge, BadShare, BadTrailer, BadOffset, RowPastRegion, KeyFalls, BadState, KeyBufferTooShort, RowEndsEarly}

abbrev pub number : Refusal → ℕ
number EmptyKey = 1
number KeyTooLong = 2
number ValueTooLong = 3
number RowDoesNotFit = 4
number RestartTooFar = 5
number BufferTooSmall = 6
number EmptyBlock = 7
number BadSettings = 8
number InputEnds = 9
number VarintTooLarge = 10
number UnknownFlags = 11
number TombstoneWithMerge = 12
number BadShare = 13
number BadTrailer = 14
number BadOffset = 15
number RowPastRegion = 16
number KeyFalls = 17
number BadState = 18
number KeyBufferTooShort = 19
number RowEndsEarly = 20

-- the refusal of a number from 1 to 20
abbrev named : ℕ → Refusal
named n =
    cond (eqb n 1) EmptyKey
    (cond (eqb n 2) KeyTooLong
    (cond (eqb n 3) ValueTooLong
    (cond (eqb n 4) RowDoesNotFit
    (cond (eqb n 5) RestartTooFar
    (cond (eqb n 6) BufferTooSmall
    (cond (eqb n 7) EmptyBlock
    (cond (eqb n 8) BadSettings
    (cond (eqb n 9) InputEnds
    (cond (eqb n 10) VarintTooLarge
    (cond (eqb n 11) UnknownFlags
    (cond (eqb n 12) TombstoneWithMerge
    (cond (eqb n 13) BadShare
    (cond (eqb n 14) BadTrailer
    (cond (eqb n 15) BadOffset
    (cond (eqb n 16) RowPastRegion
    (cond (eqb n 17) KeyFalls
    (cond (eqb n 18) BadState
    (cond (eqb n 19) KeyBufferTooShort RowEndsEarly))))))))))))))))))

named-number : (r : Refusal) → named (number r) ≡ r
named-number EmptyKey = refl
named-number KeyTooLong = refl
named-number ValueTooLong = refl
named-number RowDoesNotFit = refl
named-number RestartTooFar = refl
named-number BufferTooSmall = refl
named-number EmptyBlock = refl
named-number BadSettings = refl
named-number InputEnds = refl
named-number VarintTooLarge = refl
named-number UnknownFlags = refl
named-number TombstoneWithMerge = refl
named-number BadShare = refl
named-number BadTrailer = refl
named-number BadOffset = refl
named-number RowPastRegion = refl
named-number KeyFalls = refl
named-number BadState = refl
named-number KeyBufferTooShort = refl
named-number RowEndsEarly = refl

pub number-one : (a b : Refusal) → number a ≡ number b → a ≡ b
number-one a b e = sym (named-number a) ∙ ap named e ∙ named-number b
