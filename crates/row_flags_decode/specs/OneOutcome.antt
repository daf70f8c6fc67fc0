-- Each promise admits one outcome: two results that both keep it are equal.
use Rattle.std.specs.Prelude.{ℕ, ◌≡◌, List, Result}
use Rattle.std.proofs.Common.{sym, ◌∙◌}
use Rattle.basics.specs.declared.Refusal.{Refusal}
use Rattle.row_flags_decode.specs.declared.RowFlags.{RowFlags}
use Rattle.row_flags_decode.specs.declared.Times.{Times}
use Rattle.row_flags_decode.specs.Promise.{ReadsFlags, ReadsTimes}
use Rattle.row_flags_decode.specs.Says.{says_flags-one, says_times-one}

pub decode-flags-settled : (f : ℕ) (r q : Result RowFlags Refusal) → ReadsFlags f r → ReadsFlags f q → r ≡ q
decode-flags-settled f r q a b = says_flags-one r q (a ∙ sym b)

pub times-at-settled : (s : List ℕ) (at : ℕ) (flags : RowFlags) (r q : Result Times Refusal) → ReadsTimes s at flags r → ReadsTimes s at flags q → r ≡ q
times-at-settled s at flags r q a b = says_times-one r q (a ∙ sym b)
