-- Doubles, other cards and closes: what changes no balance. And that no balance leaves its 64 bits.
use Rattle.std.specs.Prelude.{ℕ, zero, suc, ◌+◌, ◌-◌, ◌*◌, ◌^◌, ◌≤◌, ◌<◌, ◌≡◌, refl, Bool, true, false, cond, ◌&&◌, List, [], ◌∷◌, ◌++◌, ltb, eqb, ℤ, pos, negsuc, ◌-ℤ◌, length, take, drop, get_or, Ok, Option}
use Rattle.std.proofs.Common.{ap, sym, ◌∙◌, arith, get_or-drop, eq-eqb, ne_eqb}
use Rattle.std.specs.Int.Signed.{mag}
use Rattle.layout.specs.Fixed.{unbig}
use Rattle.journal.specs.declared.Record.{Record}
use Rattle.journal.specs.declared.Found.TheVariants.{Whole}
use Rattle.journal.specs.Record.{debit_kind, top_up_kind, close_kind, length_of, kind_of, card_of, amount_of, record_bytes, number_at, kind_at, found_in, max_journal}
use Rattle.journal_read.specs.Reader.{holds, journal_of, tail_of}
use Rattle.journal_balance.specs.Counts.{alike, closes, some, counts}
use Rattle.journal_balance.specs.Balance.{worth, total, balance_of, balance_in}
use Rattle.journal.specs.Laws.Found.{Tells, tells, one_of, OneOf, debit, up, close, body-close, found-kind, found-amount}
use Rattle.journal_read.specs.Laws.Read.{tail_none}
use Rattle.journal_balance.specs.Laws.Loops.{total-none, total-more}
use Rattle.journal_demands.specs.Run.{Run, over, tail, more, run_of, run_inside, readable_short}
use Rattle.journal_demands.specs.Sums.{onto, onto-some, total-append, total-closed, total-double, own, total-own}
use Rattle.journal_demands.specs.Cut.{balance_holds}
use Rattle.journal_demands.specs.ReadsBack.{Fits, append-holds}

balance_same : (card : ℕ) (rs qs : List Record) → ((kind : ℕ) → total kind card [] rs ≡ total kind card [] qs) → balance_of card rs ≡ balance_of card qs
balance_same card rs qs e = let u = e top_up_kind in let w = e debit_kind in λ i. pos (u i) -ℤ pos (w i)

-- ---- "Appending a kind, card and retry already present changes no balance", of any card, whatever amount it bears

pub double-adds-nothing : (rs : List Record) (r : Record) → some (alike r) rs ≡ true → (card : ℕ) → balance_of card (rs ++ (r ∷ [])) ≡ balance_of card rs
double-adds-nothing rs r e card = balance_same card (rs ++ (r ∷ [])) rs λ kind. total-double kind card rs r e

pub double_changes_nothing : (d : List ℕ) (rs : List Record) (r : Record) → journal_of d ≡ holds rs (length d) → Fits r → some (alike r) rs ≡ true → length (d ++ record_bytes r) ≤ max_journal
    → (card : ℕ) → balance_in (d ++ record_bytes r) card ≡ balance_in d card
double_changes_nothing d rs r e f s h card =
    balance_holds (d ++ record_bytes r) (rs ++ (r ∷ [])) (length (d ++ record_bytes r)) card (append-holds d rs r e f h)
    ∙ ap (λ (z : ℤ). Ok (record { balance = z; tail = tail_of (length (d ++ record_bytes r)) (length (d ++ record_bytes r)) })) (double-adds-nothing rs r s card)
    ∙ ap (λ (t : Option ℕ). Ok (record { balance = balance_of card rs; tail = t })) (tail_none (length (d ++ record_bytes r)) (length (d ++ record_bytes r)) (omega arith) ∙ sym (tail_none (length d) (length d) (omega arith)))
    ∙ sym (balance_holds d rs (length d) card e)

-- ---- "Another card's records never change this card's balance as long as the journal stays readable": journals with the same records of a card have its balance

pub other_cards_silent : (card : ℕ) (rs qs : List Record) → own card rs ≡ own card qs → balance_of card rs ≡ balance_of card qs
other_cards_silent card rs qs e =
    balance_same card rs qs λ kind.
    total-own kind card [] rs ∙ ap (total kind card (own card [])) e ∙ sym (total-own kind card [] qs)

pub other_cards_silent_in : (d d' : List ℕ) (rs qs : List Record) (end end' : ℕ) → journal_of d ≡ holds rs end → journal_of d' ≡ holds qs end' → (card : ℕ) → own card rs ≡ own card qs
    → (balance_in d card ≡ Ok (record { balance = balance_of card rs; tail = tail_of end (length d) })) × (balance_in d' card ≡ Ok (record { balance = balance_of card rs; tail = tail_of end' (length d') }))
other_cards_silent_in d d' rs qs end end' p q card e =
    (balance_holds d rs end card p, balance_holds d' qs end' card q ∙ ap (λ (z : ℤ). Ok (record { balance = z; tail = tail_of end' (length d') })) (sym (other_cards_silent card rs qs e)))

-- ---- after the first close of a card no record changes its balance

pub closed-stays : (card : ℕ) (rs qs : List Record) → some (closes card) rs ≡ true → balance_of card (rs ++ qs) ≡ balance_of card rs
closed-stays card rs qs e =
    balance_same card (rs ++ qs) rs λ kind.
    total-append kind card [] rs qs ∙ ap (λ (n : ℕ). total kind card [] rs + n) (total-closed kind card (onto rs []) qs (onto-some (closes card) rs [] e)) ∙ nothing (total kind card [] rs)
  where
    nothing : (n : ℕ) → n + 0 ≡ n
    nothing n = omega arith

-- ---- no balance leaves its 64 bits

-- debits and top-ups
unfoldable pub money : List Record → ℕ
money [] = 0
money (r ∷ rs) = cond (eqb (kind_of r) close_kind) (money rs) (suc (money rs))

money-none : money [] ≡ 0
unfolding money
money-none = refl

money-close : (r : Record) (rs : List Record) → kind_of r ≡ close_kind → money (r ∷ rs) ≡ money rs
unfolding money
money-close r rs e = rw (eq-eqb (kind_of r) close_kind e)

money-more : (r : Record) (rs : List Record) → (kind_of r ≡ close_kind → ⊥) → money (r ∷ rs) ≡ suc (money rs)
unfolding money
money-more r rs n = rw (ne_eqb (kind_of r) close_kind n)

worth-most : (kind card : ℕ) (before : List Record) (r : Record) → worth kind card before r ≤ amount_of r
worth-most kind card before r = go (eqb (kind_of r) kind && (eqb (card_of r) card && counts before r))
  where
    go : (t : Bool) → cond t (amount_of r) 0 ≤ amount_of r
    go true = omega arith
    go false = omega arith

four-small : (s : List ℕ) → ((i : ℕ) → get_or s i 0 < 256) → unbig (take 4 s) < 2 ^ 32
unfolding unbig
four-small [] h = omega arith
four-small (a ∷ []) h = omega (arith, h 0)
four-small (a ∷ b ∷ []) h = omega (arith, h 0, h 1)
four-small (a ∷ b ∷ c ∷ []) h = omega (arith, h 0, h 1, h 2)
four-small (a ∷ b ∷ c ∷ e ∷ s) h = omega (arith, h 0, h 1, h 2, h 3)

amount-small : (d : List ℕ) (at : ℕ) → ((i : ℕ) → get_or d i 0 < 256) → number_at 4 d at < 2 ^ 32
unfolding number_at
amount-small d at h = four-small (drop at d) λ i. rw (get_or-drop at d i 0) (h (at + i))

module _ (d : List ℕ) (bytes : (i : ℕ) → get_or d i 0 < 256) (kind card : ℕ) where
  -- one record: its bytes, and what it adds
  abbrev Most : ℕ → Record → ℕ → List Record → List Record → Type 0
  Most at r next rs before = (at + 21 * money (r ∷ rs) ≤ next + 21 * money rs) × (worth kind card before r + money rs * 4294967295 ≤ money (r ∷ rs) * 4294967295)

  one : (at : ℕ) (r : Record) (next : ℕ) → found_in d at ≡ Ok (Whole r next) → (rs before : List Record) → Most at r next rs before
  one at r next e rs before = go (tells d at r next e) (one_of (kind_at d at) (tells d at r next e).some) (worth-most kind card before r)
    where
      long : Tells d at r next → length_of (kind_at d at) ≡ 21 → (kind_at d at ≡ 3 → ⊥) → worth kind card before r ≤ amount_of r → Most at r next rs before
      long t b n m =
          let kr : kind_of r ≡ kind_at d at = found-kind d at r next e in
          let am : amount_of r ≡ number_at 4 d (at + 17) = found-amount d at r next e b in
          let s = amount-small d (at + 17) bytes in
          let c = money-more r rs (λ z. n (sym kr ∙ z)) in
          (omega (arith, t.past), omega arith)

      go : Tells d at r next → OneOf (kind_at d at) → worth kind card before r ≤ amount_of r → Most at r next rs before
      go t (debit a b) m = long t b (λ z. absurd (omega arith)) m
      go t (up a b) m = long t b (λ z. absurd (omega arith)) m
      go t (close a b) m =
          let kr : kind_of r ≡ 3 = found-kind d at r next e ∙ a in
          let am : amount_of r ≡ 0 = ap amount_of (t.is ∙ body-close (kind_at d at) d at a) in
          let c = money-close r rs kr in
          (omega (arith, t.past), omega arith)

  sums-most : {at : ℕ} {rs : List Record} {end : ℕ} (before : List Record) → Run d at rs end → (at + 21 * money rs ≤ end) × (total kind card before rs ≤ money rs * 4294967295)
  sums-most before (over e) = (omega (arith, money-none), omega (arith, money-none, total-none kind card before))
  sums-most before (tail e) = (omega (arith, money-none), omega (arith, money-none, total-none kind card before))
  sums-most {at} before (more {next} {r} {rs} e w) =
      let o = one at r next e rs before in
      let s = sums-most (r ∷ before) w in
      (omega arith, omega (arith, total-more kind card before r rs))

difference-small : (a b : ℕ) → a ≤ 3120 * 4294967295 → b ≤ 3120 * 4294967295 → mag (pos a -ℤ pos b) ≤ 3120 * 4294967295
difference-small a zero h k = omega arith
difference-small a (suc b) h k = go (ltb a (suc b))
  where
    go : (t : Bool) → mag (cond t (negsuc (suc b - suc a)) (pos (a - suc b))) ≤ 3120 * 4294967295
    go true = omega arith
    go false = omega arith

-- a readable journal has at most 3,120 debits and top-ups; each sum is at most 3,120 times the largest amount, and the balance lies as far inside 64 bits
pub balance_never_wraps : (d : List ℕ) → ((i : ℕ) → get_or d i 0 < 256) → (rs : List Record) (end : ℕ) → journal_of d ≡ holds rs end → (card : ℕ)
    → (money rs ≤ 3120) × (total top_up_kind card [] rs ≤ 3120 * 4294967295) × (total debit_kind card [] rs ≤ 3120 * 4294967295) × (mag (balance_of card rs) < 2 ^ 63)
balance_never_wraps d bytes rs end e card =
    let run = run_of d rs end e in
    let inside = run_inside (omega arith) run in
    let short = readable_short d rs end e in
    let u = sums-most d bytes top_up_kind card [] run in
    let w = sums-most d bytes debit_kind card [] run in
    let few : money rs ≤ 3120 = omega arith in
    let ups : total top_up_kind card [] rs ≤ 3120 * 4294967295 = omega arith in
    let downs : total debit_kind card [] rs ≤ 3120 * 4294967295 = omega arith in
    (few, ups, downs, omega (arith, difference-small (total top_up_kind card [] rs) (total debit_kind card [] rs) ups downs))
