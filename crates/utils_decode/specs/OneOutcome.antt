-- Each promise admits one outcome: two results that both keep it are equal.
use Rattle.std.specs.Prelude.{ℕ, ◌≡◌, List, Result}
use Rattle.std.proofs.Common.{sym, ◌∙◌}
use Rattle.basics.specs.declared.Refusal.{Refusal}
use Rattle.basics.specs.declared.Read.{Read}
use Rattle.utils_decode.specs.Promise.{ReadsVarint}
use Rattle.basics.specs.Answers.{says_num-one}

pub decode-varint-settled : (s : List ℕ) (at : ℕ) (r q : Result (Read ℕ) Refusal) → ReadsVarint s at r → ReadsVarint s at q → r ≡ q
decode-varint-settled s at r q a b = says_num-one r q (a ∙ sym b)
