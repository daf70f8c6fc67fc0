-- Each promise admits one outcome: two answers that both keep it are equal.
use Rattle.std.specs.Prelude.{ℕ, ◌≡◌, Bool, List, Result}
use Rattle.std.proofs.Common.{sym, ◌∙◌}
use Rattle.std.specs.declared.cmp.Ordering.{Ordering}
use Rattle.basics.specs.Answers.{says_same-one}
use Rattle.basics.specs.declared.Refusal.{Refusal}
use Rattle.block_check_v2.specs.Promise.{Checks, MayFollow}

pub check-settled : (b : List ℕ) (r q : Result ℕ Refusal) → Checks b r → Checks b q → r ≡ q
check-settled b r q m n = says_same-one r q (m ∙ sym n)

pub may-follow-settled : (order : Ordering) (before seq : ℕ) (r q : Bool) → MayFollow order before seq r → MayFollow order before seq q → r ≡ q
may-follow-settled order before seq r q m n = m ∙ sym n
