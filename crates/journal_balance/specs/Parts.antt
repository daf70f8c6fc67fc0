-- What the private functions are asked for.
use Rattle.std.specs.Prelude.{ℕ, ◌+◌, ◌^◌, ◌≤◌, ◌≡◌, Bool, ◌&&◌, List, [], ◌∷◌, eqb, pos, ◌-ℤ◌, Result, Ok, Err}
use Rattle.journal.specs.declared.Refusal.{Refusal}
use Rattle.journal.specs.declared.Record.{Record}
use Rattle.journal.specs.declared.Found.TheVariants.{Whole}
use Rattle.journal_balance.specs.declared.Balanced.{Balanced}
use Rattle.journal_balance.specs.declared.Sums.{Sums}
use Rattle.journal.specs.Record.{debit_kind, top_up_kind, kind_of, card_of, retry_of, found_in}
use Rattle.journal_read.specs.Reader.{Journal, holds, refused, tail_of}
use Rattle.journal_balance.specs.Counts.{closes, some}
use Rattle.journal_balance.specs.Balance.{worth, total}

-- the records that stand one after another from `at` to `end`, put on those of `before`, are those of `all`; in both the last comes first
pub data Walk (d : List ℕ) (end : ℕ) (all : List Record) : ℕ → List Record → Type 0 where
  here : Walk d end all end all
  step : {at next : ℕ} {r : Record} {before : List Record} → found_in d at ≡ Ok (Whole r next) → Walk d end all next (r ∷ before) → Walk d end all at before

-- the records before `at` are those of `before`
abbrev pub Passed : List ℕ → ℕ → List Record → Type 0
Passed d at before = Walk d at before 0 []

-- has this kind, card and retry number
abbrev pub named : ℕ → ℕ → ℕ → Record → Bool
named kind card retry q = eqb kind (kind_of q) && (eqb card (card_of q) && eqb retry (retry_of q))

abbrev pub Named : List ℕ → ℕ → ℕ → ℕ → ℕ → Bool → Type 0
Named d at kind card retry b = (r : Record) (next : ℕ) → found_in d at ≡ Ok (Whole r next) → b ≡ named kind card retry r

abbrev pub Earlier : List ℕ → ℕ → ℕ → ℕ → ℕ → Bool → Type 0
Earlier d at kind card retry r = (before : List Record) → Passed d at before → r ≡ some (named kind card retry) before

-- the sums take in the record at `at`
pub record TakesIn (card : ℕ) (before : List Record) (r : Record) (s t : Sums) : Type 0 where
  pub ups : t.ups ≡ s.ups + worth top_up_kind card before r
  pub downs : t.downs ≡ s.downs + worth debit_kind card before r
  pub closed : t.closed ≡ some (closes card) (r ∷ before)

pub record CountsOne (d : List ℕ) (at card : ℕ) (s t : Sums) : Type 0 where
  pub sums : (before : List Record) (r : Record) (next : ℕ) → Passed d at before → found_in d at ≡ Ok (Whole r next) → s.closed ≡ some (closes card) before → TakesIn card before r s t
  pub small : t.ups + t.downs ≤ s.ups + s.downs + 2 ^ 32

-- a journal's answer, after the records of `before`, whose sums are u and w
abbrev pub settled_from : ℕ → ℕ → List Record → ℕ → ℕ → Journal → Result Balanced Refusal
settled_from card size before u w (holds rs end) = Ok (record { balance = pos (u + total top_up_kind card before rs) -ℤ pos (w + total debit_kind card before rs); tail = tail_of end size })
settled_from card size before u w (refused x) = Err x
