-- Each theorem once, on a journal of the desk's, so that none is empty: what it asks for is there, by computation. Card 7 is topped up with 500, debited 200 twice under one retry number
-- (the second time 999), topped up under the same retry number, and closed; card 8 has a debit of 4,294,967,295, a number below zero.
use Rattle.std.specs.Prelude.{ℕ, zero, suc, ◌+◌, ◌*◌, ◌^◌, ◌<◌, ◌≤◌, ◌≡◌, refl, Bool, true, false, cond, List, [], ◌∷◌, ◌++◌, ltb, pos, negsuc, take, get_or, Ok, Some, None}
use Rattle.std.proofs.Common.{⊎_elim, arith}
use Rattle.std.specs.Int.Signed.{mag}
use Rattle.layout.specs.Fixed.{big, unbig}
use Rattle.layout.proofs.Laws.Res.{ltb-cases, clash}
use Rattle.journal.specs.declared.Record.{Record}
use Rattle.journal.specs.declared.Record.TheVariants.{Debit, TopUp, Close}
use Rattle.journal.specs.Record.{debit_kind, top_up_kind, length_of, record_bytes, number_at, body_at, found_in}
use Rattle.journal_read.specs.Reader.{holds, records_from, journal_of}
use Rattle.journal_balance.specs.Counts.{some}
use Rattle.journal_balance.specs.Balance.{total, balance_of, balance_in}
use Rattle.journal_append.specs.Append.{appended, written}
use Rattle.journal_demands.specs.Sums.{own}
use Rattle.journal_demands.specs.Cut.{complete_by, end_by, cut_anywhere}
use Rattle.journal_demands.specs.ReadsBack.{append-reads-back}
use Rattle.journal_demands.specs.Balances.{money, double_changes_nothing, other_cards_silent, closed-stays, balance_never_wraps}

abbrev records : List Record
records = TopUp 7 1 500 ∷ Debit 7 2 200 ∷ Debit 8 2 4294967295 ∷ Debit 7 2 999 ∷ TopUp 7 2 30 ∷ Close 7 ∷ Debit 7 3 50 ∷ []

-- the bytes, by hand
abbrev body : ℕ → ℕ → List ℕ → List ℕ
body card retry amount = 0 ∷ 0 ∷ 0 ∷ 0 ∷ 0 ∷ 0 ∷ 0 ∷ card ∷ 0 ∷ 0 ∷ 0 ∷ 0 ∷ 0 ∷ 0 ∷ 0 ∷ retry ∷ amount

abbrev desk : List ℕ
desk =
    (2 ∷ body 7 1 (0 ∷ 0 ∷ 1 ∷ 244 ∷ []))
    ++ ((1 ∷ body 7 2 (0 ∷ 0 ∷ 0 ∷ 200 ∷ []))
    ++ ((1 ∷ body 8 2 (255 ∷ 255 ∷ 255 ∷ 255 ∷ []))
    ++ ((1 ∷ body 7 2 (0 ∷ 0 ∷ 3 ∷ 231 ∷ []))
    ++ ((2 ∷ body 7 2 (0 ∷ 0 ∷ 0 ∷ 30 ∷ []))
    ++ ((3 ∷ 0 ∷ 0 ∷ 0 ∷ 0 ∷ 0 ∷ 0 ∷ 0 ∷ 7 ∷ [])
    ++ (1 ∷ body 7 3 (0 ∷ 0 ∷ 0 ∷ 50 ∷ [])))))))

desk-holds : journal_of desk ≡ holds records 135
unfolding journal_of records_from found_in body_at length_of number_at unbig
desk-holds = refl

-- top-ups 500 and 30 less the debit of 200: the double and the debit after the close count for nothing
desk_7 : balance_in desk 7 ≡ Ok (record { balance = pos 330; tail = None })
unfolding balance_in total some journal_of records_from found_in body_at length_of number_at unbig
desk_7 = refl

desk_8 : balance_in desk 8 ≡ Ok (record { balance = negsuc 4294967294; tail = None })
unfolding balance_in total some journal_of records_from found_in body_at length_of number_at unbig
desk_8 = refl

-- ---- cut after the second record, and one byte further

cut-here : (journal_of (take 42 desk) ≡ holds (TopUp 7 1 500 ∷ Debit 7 2 200 ∷ []) 42) × (balance_in (take 42 desk) 7 ≡ Ok (record { balance = pos 300; tail = None }))
unfolding complete_by end_by length_of total some
cut-here = let c = cut_anywhere desk records 135 desk-holds 42 (omega arith) in (c.0, c.1 7)

cut_inside : (journal_of (take 43 desk) ≡ holds (TopUp 7 1 500 ∷ Debit 7 2 200 ∷ []) 42) × (balance_in (take 43 desk) 7 ≡ Ok (record { balance = pos 300; tail = Some 42 }))
unfolding complete_by end_by length_of total some
cut_inside = let c = cut_anywhere desk records 135 desk-holds 43 (omega arith) in (c.0, c.1 7)

-- ---- a double of the first record, with another amount

double-here : (card : ℕ) → balance_in (desk ++ record_bytes (TopUp 7 1 1)) card ≡ balance_in desk card
unfolding some record_bytes big
double-here = double_changes_nothing desk records (TopUp 7 1 1) desk-holds (omega arith, omega arith, omega arith) refl (omega arith)

-- ---- without the record of card 8

others : List Record
others = TopUp 7 1 500 ∷ Debit 7 2 200 ∷ Debit 7 2 999 ∷ TopUp 7 2 30 ∷ Close 7 ∷ Debit 7 3 50 ∷ []

silent_own : own 7 records ≡ own 7 others
unfolding own others
silent_own = refl

silent_here : balance_of 7 records ≡ balance_of 7 others
silent_here = other_cards_silent 7 records others silent_own

-- ---- after the close

closed-here : balance_of 7 ((TopUp 7 1 500 ∷ Close 7 ∷ []) ++ (TopUp 7 2 30 ∷ Debit 7 3 50 ∷ [])) ≡ balance_of 7 (TopUp 7 1 500 ∷ Close 7 ∷ [])
unfolding some
closed-here = closed-stays 7 (TopUp 7 1 500 ∷ Close 7 ∷ []) (TopUp 7 2 30 ∷ Debit 7 3 50 ∷ []) refl

-- ---- a record appended to a whole used part, in a buffer with room after it

abbrev buffer : List ℕ
buffer = (3 ∷ 0 ∷ 0 ∷ 0 ∷ 0 ∷ 0 ∷ 0 ∷ 0 ∷ 7 ∷ []) ++ (9 ∷ 9 ∷ 9 ∷ 9 ∷ 9 ∷ 9 ∷ 9 ∷ 9 ∷ 9 ∷ 9 ∷ [])

back-here : (rs : List Record) × (journal_of (take 9 buffer) ≡ holds rs 9) × (18 ≡ 9 + length_of 3) × (journal_of (take 18 (written (Ok 18) buffer 9 (Close 8))) ≡ holds (rs ++ (Close 8 ∷ [])) 18)
unfolding appended journal_of records_from found_in body_at length_of number_at unbig
back-here = append-reads-back buffer 9 (Close 8) 18 (omega arith) refl

-- ---- its bytes are bytes, so its balances stay inside

are_bytes : List ℕ → Bool
are_bytes [] = true
are_bytes (x ∷ xs) = cond (ltb x 256) (are_bytes xs) false

are-bytes : (xs : List ℕ) → are_bytes xs ≡ true → (i : ℕ) → get_or xs i 0 < 256
unfolding are_bytes
are-bytes [] h i = omega arith
are-bytes (x ∷ xs) h zero = ⊎_elim (λ u. u.1) (λ u. absurd (clash (rw u.0 at h) refl)) (ltb-cases x 256)
are-bytes (x ∷ xs) h (suc i) = ⊎_elim (λ u. are-bytes xs (rw u.0 at h) i) (λ u. absurd (clash (rw u.0 at h) refl)) (ltb-cases x 256)

inside-here : (money records ≤ 3120) × (total top_up_kind 8 [] records ≤ 3120 * 4294967295) × (total debit_kind 8 [] records ≤ 3120 * 4294967295) × (mag (balance_of 8 records) < 2 ^ 63)
unfolding are_bytes
inside-here = balance_never_wraps desk (are-bytes desk refl) records 135 desk-holds 8
