-- A record: "one byte of kind, then a body whose length the kind fixes". Kind 1 is a debit and kind 2 a top-up: card (8 bytes), retry number (8), amount (4), all
-- high byte first. Kind 3 closes a card: its 8 bytes.
use Rattle.std.specs.Prelude.{ℕ, ◌+◌, cond, ◌∷◌, ◌++◌, ltb, leb, eqb, length, take, drop, get_or, Result, Ok, Err}
use Rattle.layout.specs.Bytes.{Bytes}
use Rattle.layout.specs.Fixed.{big, unbig}
use Rattle.journal.specs.declared.Refusal.{Refusal}
use Rattle.journal.specs.declared.Refusal.TheVariants.{TooLong, UnknownKind}
use Rattle.journal.specs.declared.Kind.{Kind}
use Rattle.journal.specs.declared.Kind.TheVariants.{Debit as DebitKind, TopUp as TopUpKind, Close as CloseKind}
use Rattle.journal.specs.declared.NoKind.{NoKind}
use Rattle.journal.specs.declared.Record.{Record}
use Rattle.journal.specs.declared.Record.TheVariants.{Debit, TopUp, Close}
use Rattle.journal.specs.declared.Found.{Found}
use Rattle.journal.specs.declared.Found.TheVariants.{Whole, Incomplete, End}

abbrev pub debit_kind : ℕ
debit_kind = 1

abbrev pub top_up_kind : ℕ
top_up_kind = 2

abbrev pub close_kind : ℕ
close_kind = 3

-- the byte that stands for a kind
abbrev pub byte_of : Kind → ℕ
byte_of DebitKind = debit_kind
byte_of TopUpKind = top_up_kind
byte_of CloseKind = close_kind

-- the kind that a byte stands for
unfoldable pub kind_in : ℕ → Result Kind NoKind
kind_in byte = cond (eqb byte debit_kind) (Ok DebitKind) (cond (eqb byte top_up_kind) (Ok TopUpKind) (cond (eqb byte close_kind) (Ok CloseKind) (Err (record {}))))

-- "so 21 bytes with the kind"; a close has 9; another kind is no record's
unfoldable pub length_of : ℕ → ℕ
length_of kind = cond (eqb kind debit_kind) 21 (cond (eqb kind top_up_kind) 21 (cond (eqb kind close_kind) 9 0))

abbrev pub kind_of : Record → ℕ
kind_of (Debit card retry amount) = debit_kind
kind_of (TopUp card retry amount) = top_up_kind
kind_of (Close card) = close_kind

abbrev pub card_of : Record → ℕ
card_of (Debit card retry amount) = card
card_of (TopUp card retry amount) = card
card_of (Close card) = card

-- a close has neither
abbrev pub retry_of : Record → ℕ
retry_of (Debit card retry amount) = retry
retry_of (TopUp card retry amount) = retry
retry_of (Close card) = 0

abbrev pub amount_of : Record → ℕ
amount_of (Debit card retry amount) = amount
amount_of (TopUp card retry amount) = amount
amount_of (Close card) = 0

-- ---- written

abbrev pub body_bytes : ℕ → ℕ → ℕ → Bytes
body_bytes card retry amount = big 8 card ++ (big 8 retry ++ big 4 amount)

unfoldable pub record_bytes : Record → Bytes
record_bytes (Debit card retry amount) = debit_kind ∷ body_bytes card retry amount
record_bytes (TopUp card retry amount) = top_up_kind ∷ body_bytes card retry amount
record_bytes (Close card) = close_kind ∷ big 8 card

-- ---- read at a place

-- n bytes, high byte first
unfoldable pub number_at : ℕ → Bytes → ℕ → ℕ
number_at n d at = unbig (take n (drop at d))

abbrev pub kind_at : Bytes → ℕ → ℕ
kind_at d at = get_or d at 0

-- the record of this kind whose kind stands at `at`
unfoldable pub body_at : ℕ → Bytes → ℕ → Record
body_at kind d at =
    cond (eqb kind close_kind) (Close (number_at 8 d (at + 1)))
    (cond (eqb kind debit_kind) (Debit (number_at 8 d (at + 1)) (number_at 8 d (at + 9)) (number_at 4 d (at + 17)))
    (TopUp (number_at 8 d (at + 1)) (number_at 8 d (at + 9)) (number_at 4 d (at + 17))))

-- what stands at `at`: nothing; a kind that is none of the three (31, with its position); a record that the bytes end inside; or a record and the place after it
unfoldable pub found_in : Bytes → ℕ → Result Found Refusal
found_in d at =
    cond (leb (length d) at) (Ok End)
    (cond (eqb (length_of (kind_at d at)) 0) (Err (UnknownKind at))
    (cond (ltb (length d) (at + length_of (kind_at d at))) (Ok Incomplete)
    (Ok (Whole (body_at (kind_at d at) d at) (at + length_of (kind_at d at))))))

-- ---- a single record of a journal: "a journal over 65,536 bytes answers 30"

abbrev pub max_journal : ℕ
max_journal = 65536

unfoldable pub record_at : Bytes → ℕ → Result Found Refusal
record_at d at = cond (ltb max_journal (length d)) (Err TooLong) (found_in d at)
