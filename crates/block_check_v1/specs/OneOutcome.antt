-- The promise admits one outcome: two answers that both keep it are equal.
use Rattle.std.specs.Prelude.{ℕ, ◌≡◌, List, Result}
use Rattle.std.proofs.Common.{sym, ◌∙◌}
use Rattle.basics.specs.Answers.{says_same-one}
use Rattle.basics.specs.declared.Refusal.{Refusal}
use Rattle.block_check_v1.specs.Promise.{Checks}

pub check-settled : (b : List ℕ) (r q : Result ℕ Refusal) → Checks b r → Checks b q → r ≡ q
check-settled b r q m n = says_same-one r q (m ∙ sym n)
