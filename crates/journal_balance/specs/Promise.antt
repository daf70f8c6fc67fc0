-- What the public function promises: an equation to the definition, that settles every answer.
use Rattle.std.specs.Prelude.{ℕ, ◌≡◌, List, Result}
use Rattle.journal.specs.declared.Refusal.{Refusal}
use Rattle.journal_balance.specs.declared.Balanced.{Balanced}
use Rattle.journal_balance.specs.Balance.{balance_in}

abbrev pub Balances : List ℕ → ℕ → Result Balanced Refusal → Type 0
Balances d card r = r ≡ balance_in d card
