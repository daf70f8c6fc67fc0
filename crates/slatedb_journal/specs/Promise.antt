-- What each exported function promises: the code that it answers, and what each lent word and byte is after it.
use Rattle.std.specs.Prelude.{ℕ, cond, ◌≡◌, List, eqb, ℤ, length, Result, Option, Some, None}
use Rattle.journal.specs.declared.Refusal.{Refusal}
use Rattle.journal.specs.declared.Record.{Record}
use Rattle.journal_read.specs.declared.Reading.{Reading}
use Rattle.journal.specs.Record.{record_at}
use Rattle.journal_read.specs.Reader.{reading_of}
use Rattle.journal_balance.specs.declared.Balanced.{Balanced}
use Rattle.journal_balance.specs.Balance.{balance_in}
use Rattle.journal_append.specs.Append.{appended, written}
use Rattle.slatedb_journal.specs.Flat.{bad_words, record_count, found_code, found_words, read_code, read_count, read_place, balance_code, balance_sum, balance_place, append_code, append_place}

pub record FindsFlat (d : List ℕ) (at : ℕ) (ws : List ℕ) (code : ℕ) (ws' : List ℕ) : Type 0 where
  pub answer : code ≡ cond (eqb (length ws) record_count) (found_code (record_at d at)) bad_words
  pub words : ws' ≡ cond (eqb (length ws) record_count) (found_words (record_at d at) ws) ws

pub record ReadsAs (want : Result Reading Refusal) (size n p code n' p' : ℕ) : Type 0 where
  pub answer : code ≡ read_code want
  pub count : n' ≡ read_count want n
  pub place : p' ≡ read_place size want p

abbrev pub ReadsFlat : List ℕ → ℕ → ℕ → ℕ → ℕ → ℕ → Type 0
ReadsFlat d n p code n' p' = ReadsAs (reading_of d) (length d) n p code n' p'

pub record BalancesAs (want : Result Balanced Refusal) (size : ℕ) (z : ℤ) (p code : ℕ) (z' : ℤ) (p' : ℕ) : Type 0 where
  pub answer : code ≡ balance_code want
  pub sum : z' ≡ balance_sum want z
  pub place : p' ≡ balance_place size want p

abbrev pub BalancesFlat : List ℕ → ℕ → ℤ → ℕ → ℕ → ℤ → ℕ → Type 0
BalancesFlat d card z p code z' p' = BalancesAs (balance_in d card) (length d) z p code z' p'

-- what is offered, appended; 254 where it is no record
abbrev pub offer_code : List ℕ → ℕ → Option Record → ℕ
offer_code buffer used (Some r) = append_code (appended buffer used r)
offer_code buffer used None = bad_words

abbrev pub offer_place : List ℕ → ℕ → Option Record → ℕ → ℕ
offer_place buffer used (Some r) p = append_place (appended buffer used r) p
offer_place buffer used None p = p

abbrev pub bytes_after_of : List ℕ → ℕ → Option Record → List ℕ
bytes_after_of buffer used (Some r) = written (appended buffer used r) buffer used r
bytes_after_of buffer used None = buffer

pub record AppendsFlat (buffer : List ℕ) (used : ℕ) (offer : Option Record) (p code : ℕ) (buffer' : List ℕ) (p' : ℕ) : Type 0 where
  pub answer : code ≡ offer_code buffer used offer
  pub bytes : buffer' ≡ bytes_after_of buffer used offer
  pub place : p' ≡ offer_place buffer used offer p
