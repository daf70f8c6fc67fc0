-- The promise admits one outcome.
use Rattle.std.specs.Prelude.{ℕ, ◌≡◌, List, Result}
use Rattle.std.proofs.Common.{sym, ◌∙◌}
use Rattle.journal.specs.declared.Refusal.{Refusal}
use Rattle.journal_balance.specs.declared.Balanced.{Balanced}
use Rattle.journal_balance.specs.Promise.{Balances}

pub balance_settled : (d : List ℕ) (card : ℕ) (r q : Result Balanced Refusal) → Balances d card r → Balances d card q → r ≡ q
balance_settled d card r q a b = a ∙ sym b
