-- The journal's answers as codes and lent words. A refusal leaves the words, but for the position that 31 tells.
use Rattle.std.specs.Prelude.{ℕ, cond, List, [], ◌∷◌, eqb, ℤ, Result, Ok, Err, Option, Some, None}
use Rattle.journal.specs.declared.Refusal.{Refusal}
use Rattle.journal.specs.declared.Refusal.TheVariants.{TooLong, UnknownKind, UsedPastBuffer, EndsInside, NoRoom}
use Rattle.journal.specs.declared.Record.{Record}
use Rattle.journal.specs.declared.Record.TheVariants.{Debit, TopUp, Close}
use Rattle.journal.specs.declared.Found.{Found}
use Rattle.journal.specs.declared.Found.TheVariants.{Whole, Incomplete, End}
use Rattle.journal_read.specs.declared.Reading.{Reading}
use Rattle.journal_balance.specs.declared.Balanced.{Balanced}
use Rattle.journal.specs.Number.{number}
use Rattle.journal.specs.Record.{debit_kind, top_up_kind, close_kind, kind_of, card_of, retry_of, amount_of}

-- lent words that are not as many as they must be, and a kind offered that is none of the three
abbrev pub bad_words : ℕ
bad_words = 254

-- 31 tells its position
abbrev pub place_told : Refusal → ℕ → ℕ
place_told TooLong p = p
place_told (UnknownKind at) p = at
place_told UsedPastBuffer p = p
place_told EndsInside p = p
place_told NoRoom p = p

-- where the complete records end: the tail's start, or the journal's end
abbrev pub tail_place : Option ℕ → ℕ → ℕ
tail_place None size = size
tail_place (Some at) size = at

-- ---- a record, as words

abbrev pub record_count : ℕ
record_count = 5

abbrev pub five_words : ℕ → ℕ → ℕ → ℕ → ℕ → List ℕ
five_words kind card retry amount next = kind ∷ card ∷ retry ∷ amount ∷ next ∷ []

abbrev pub record_words : Record → ℕ → List ℕ
record_words r next = five_words (kind_of r) (card_of r) (retry_of r) (amount_of r) next

abbrev pub found_code : Result Found Refusal → ℕ
found_code (Ok (Whole r next)) = 0
found_code (Ok Incomplete) = 253
found_code (Ok End) = 255
found_code (Err x) = number x

abbrev pub found_words : Result Found Refusal → List ℕ → List ℕ
found_words (Ok (Whole r next)) ws = record_words r next
found_words (Ok Incomplete) ws = ws
found_words (Ok End) ws = ws
found_words (Err x) ws = ws

-- ---- what was read

abbrev pub read_code : Result Reading Refusal → ℕ
read_code (Ok r) = 0
read_code (Err x) = number x

abbrev pub read_count : Result Reading Refusal → ℕ → ℕ
read_count (Ok r) m = r.records
read_count (Err x) m = m

abbrev pub read_place : ℕ → Result Reading Refusal → ℕ → ℕ
read_place size (Ok r) p = tail_place r.tail size
read_place size (Err x) p = place_told x p

-- ---- a balance

abbrev pub balance_code : Result Balanced Refusal → ℕ
balance_code (Ok b) = 0
balance_code (Err x) = number x

abbrev pub balance_sum : Result Balanced Refusal → ℤ → ℤ
balance_sum (Ok b) y = b.balance
balance_sum (Err x) y = y

abbrev pub balance_place : ℕ → Result Balanced Refusal → ℕ → ℕ
balance_place size (Ok b) p = tail_place b.tail size
balance_place size (Err x) p = place_told x p

-- ---- what was appended

abbrev pub append_code : Result ℕ Refusal → ℕ
append_code (Ok next) = 0
append_code (Err x) = number x

abbrev pub append_place : Result ℕ Refusal → ℕ → ℕ
append_place (Ok next) p = next
append_place (Err x) p = place_told x p

-- the record that a kind and the numbers beside it stand for
unfoldable pub offered_by : ℕ → ℕ → ℕ → ℕ → Option Record
offered_by kind card retry amount =
    cond (eqb kind debit_kind) (Some (Debit card retry amount))
    (cond (eqb kind top_up_kind) (Some (TopUp card retry amount))
    (cond (eqb kind close_kind) (Some (Close card)) None))
