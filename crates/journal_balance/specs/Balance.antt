-- The balance of a named card. "The balance is top-ups less debits, and a balance below zero is an answer."
use Rattle.std.specs.Prelude.{ℕ, ◌+◌, cond, ◌&&◌, List, [], ◌∷◌, eqb, ℤ, pos, ◌-ℤ◌, length, Result, Ok, Err}
use Rattle.layout.specs.Bytes.{Bytes}
use Rattle.journal.specs.declared.Refusal.{Refusal}
use Rattle.journal.specs.declared.Record.{Record}
use Rattle.journal_balance.specs.declared.Balanced.{Balanced}
use Rattle.journal.specs.Record.{debit_kind, top_up_kind, kind_of, card_of, amount_of}
use Rattle.journal_read.specs.Reader.{Journal, holds, refused, journal_of, tail_of}
use Rattle.journal_balance.specs.Counts.{counts}

-- what a record after those in `before` adds to the sum of a kind for a card
abbrev pub worth : ℕ → ℕ → List Record → Record → ℕ
worth kind card before r = cond (eqb (kind_of r) kind && (eqb (card_of r) card && counts before r)) (amount_of r) 0

-- the amounts of a kind that count for a card, after the records in `before`, of which the last comes first
unfoldable pub total : ℕ → ℕ → List Record → List Record → ℕ
total kind card before [] = 0
total kind card before (r ∷ rs) = worth kind card before r + total kind card (r ∷ before) rs

abbrev pub balance_of : ℕ → List Record → ℤ
balance_of card rs = pos (total top_up_kind card [] rs) -ℤ pos (total debit_kind card [] rs)

-- with the tail
abbrev pub settled : ℕ → ℕ → Journal → Result Balanced Refusal
settled card size (holds rs end) = Ok (record { balance = balance_of card rs; tail = tail_of end size })
settled card size (refused x) = Err x

unfoldable pub balance_in : Bytes → ℕ → Result Balanced Refusal
balance_in d card = settled card (length d) (journal_of d)
