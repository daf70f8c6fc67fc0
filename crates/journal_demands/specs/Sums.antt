-- Sums over records: over two lists one after another; after a close; of a card's own records alone.
use Rattle.std.specs.Prelude.{ℕ, ◌+◌, ◌≡◌, refl, Bool, true, false, cond, ◌||◌, List, [], ◌∷◌, ◌++◌, eqb}
use Rattle.std.proofs.Common.{ap, sym, ◌∙◌, ⊎_elim, add-zero, zero-add, add_assoc, arith, eq-eqb, ne_eqb}
use Rattle.layout.proofs.Laws.Res.{eqb-cases}
use Rattle.journal.specs.declared.Record.{Record}
use Rattle.journal.specs.Record.{close_kind, kind_of, card_of}
use Rattle.journal_balance.specs.Counts.{alike, closes, some}
use Rattle.journal_balance.specs.Balance.{worth, total}
use Rattle.journal_balance.specs.Laws.Walk.{some-none, some_more, or-true}
use Rattle.journal_balance.specs.Laws.Loops.{total-none, total-more}
use Rattle.journal_balance.specs.Laws.Counts.{and-false, worth-not, worth-other, worth-closed, counts-double}

-- records one after another, put on those before, of which the last comes first
abbrev pub onto : List Record → List Record → List Record
onto [] before = before
onto (r ∷ rs) before = onto rs (r ∷ before)

pub onto-before : (test : Record → Bool) (rs before : List Record) → some test before ≡ true → some test (onto rs before) ≡ true
onto-before test [] before e = e
onto-before test (r ∷ rs) before e = onto-before test rs (r ∷ before) (some_more test r before ∙ ap (λ (b : Bool). test r || b) e ∙ or-true (test r))

pub onto-some : (test : Record → Bool) (rs before : List Record) → some test rs ≡ true → some test (onto rs before) ≡ true
onto-some test [] before e = absurd (let z : some test [] ≡ false = some-none test in let y : ◌≡◌ {A = ℕ} 0 1 = cc in omega arith)
onto-some test (r ∷ rs) before e = go (test r) refl (sym (some_more test r rs) ∙ e) (onto-some test rs (r ∷ before))
  where
    go : (t : Bool) → test r ≡ t → t || some test rs ≡ true → (some test rs ≡ true → some test (onto rs (r ∷ before)) ≡ true) → some test (onto rs (r ∷ before)) ≡ true
    go true q f ih = onto-before test rs (r ∷ before) (some_more test r before ∙ ap (λ (b : Bool). b || some test before) q)
    go false q f ih = ih f

module _ (kind card : ℕ) where
  pub total-append : (before rs qs : List Record) → total kind card before (rs ++ qs) ≡ total kind card before rs + total kind card (onto rs before) qs
  total-append before [] qs = sym (ap (λ (n : ℕ). n + total kind card before qs) (total-none kind card before) ∙ zero-add (total kind card before qs))
  total-append before (r ∷ rs) qs =
      total-more kind card before r (rs ++ qs)
      ∙ ap (λ (n : ℕ). worth kind card before r + n) (total-append (r ∷ before) rs qs)
      ∙ sym (add_assoc (worth kind card before r) (total kind card (r ∷ before) rs) (total kind card (onto rs (r ∷ before)) qs))
      ∙ ap (λ (n : ℕ). n + total kind card (onto rs (r ∷ before)) qs) (sym (total-more kind card before r rs))

  -- ---- after a close

  pub total-closed : (before qs : List Record) → some (closes card) before ≡ true → total kind card before qs ≡ 0
  total-closed before [] e = total-none kind card before
  total-closed before (r ∷ qs) e =
      total-more kind card before r qs
      ∙ ap (λ (n : ℕ). n + total kind card (r ∷ before) qs) (worth-closed kind card before r e)
      ∙ ap (λ (n : ℕ). 0 + n) (total-closed (r ∷ before) qs (some_more (closes card) r before ∙ ap (λ (b : Bool). closes card r || b) e ∙ or-true (closes card r)))

  -- ---- a double

  pub total-double : (rs : List Record) (r : Record) → some (alike r) rs ≡ true → total kind card [] (rs ++ (r ∷ [])) ≡ total kind card [] rs
  total-double rs r e =
      total-append [] rs (r ∷ [])
      ∙ ap (λ (n : ℕ). total kind card [] rs + n)
      (total-more kind card (onto rs []) r []
      ∙ ap (λ (n : ℕ). n + total kind card (r ∷ onto rs []) []) (worth-not kind card (onto rs []) r (counts-double (onto rs []) r (onto-some (alike r) rs [] e)))
      ∙ ap (λ (n : ℕ). 0 + n) (total-none kind card (r ∷ onto rs [])))
      ∙ add-zero (total kind card [] rs)

-- ---- a card's own records

unfoldable pub own : ℕ → List Record → List Record
own card [] = []
own card (r ∷ rs) = cond (eqb (card_of r) card) (r ∷ own card rs) (own card rs)

own_mine : (card : ℕ) (r : Record) (rs : List Record) → card_of r ≡ card → own card (r ∷ rs) ≡ r ∷ own card rs
unfolding own
own_mine card r rs e = rw (eq-eqb (card_of r) card e)

own-other : (card : ℕ) (r : Record) (rs : List Record) → (card_of r ≡ card → ⊥) → own card (r ∷ rs) ≡ own card rs
unfolding own
own-other card r rs n = rw (ne_eqb (card_of r) card n)

own-none : (card : ℕ) → own card [] ≡ []
unfolding own
own-none card = refl

-- a test that only a card's own records pass
own-some : (card : ℕ) (test : Record → Bool) → ((q : Record) → (card_of q ≡ card → ⊥) → test q ≡ false) → (rs : List Record) → some test rs ≡ some test (own card rs)
own-some card test only [] = ap (some test) (sym (own-none card))
own-some card test only (q ∷ rs) =
    ⊎_elim
    (λ u. some_more test q rs ∙ ap (λ (b : Bool). test q || b) (own-some card test only rs) ∙ sym (some_more test q (own card rs)) ∙ ap (some test) (sym (own_mine card q rs u.1)))
    (λ u. some_more test q rs ∙ ap (λ (b : Bool). b || some test rs) (only q u.1) ∙ own-some card test only rs ∙ ap (some test) (sym (own-other card q rs u.1)))
    (eqb-cases (card_of q) card)

alike-own : (card : ℕ) (r : Record) → card_of r ≡ card → (q : Record) → (card_of q ≡ card → ⊥) → alike r q ≡ false
alike-own card r e q n = rw (ne_eqb (card_of r) (card_of q) (λ m. n (sym m ∙ e)), and-false (eqb (kind_of r) (kind_of q)))

closes-own : (card : ℕ) (q : Record) → (card_of q ≡ card → ⊥) → closes card q ≡ false
closes-own card q n = rw (ne_eqb (card_of q) card n, and-false (eqb (kind_of q) close_kind))

worth-own : (kind card : ℕ) (before : List Record) (r : Record) → card_of r ≡ card → worth kind card before r ≡ worth kind card (own card before) r
worth-own kind card before r e =
    let one : some (alike r) before ≡ some (alike r) (own card before) = own-some card (alike r) (alike-own card r e) before in
    let two : some (closes (card_of r)) before ≡ some (closes (card_of r)) (own card before) = own-some card (closes (card_of r)) (λ q n. rw e (closes-own card q n)) before in
    rw (one, two)

pub total-own : (kind card : ℕ) (before rs : List Record) → total kind card before rs ≡ total kind card (own card before) (own card rs)
total-own kind card before [] = total-none kind card before ∙ sym (ap (total kind card (own card before)) (own-none card) ∙ total-none kind card (own card before))
total-own kind card before (r ∷ rs) =
    ⊎_elim
    (λ u. total-more kind card before r rs
    ∙ ap (λ (n : ℕ). n + total kind card (r ∷ before) rs) (worth-own kind card before r u.1)
    ∙ ap (λ (n : ℕ). worth kind card (own card before) r + n) (total-own kind card (r ∷ before) rs ∙ ap (λ (l : List Record). total kind card l (own card rs)) (own_mine card r before u.1))
    ∙ sym (ap (total kind card (own card before)) (own_mine card r rs u.1) ∙ total-more kind card (own card before) r (own card rs)))
    (λ u. total-more kind card before r rs
    ∙ ap (λ (n : ℕ). n + total kind card (r ∷ before) rs) (worth-other kind card before r u.1)
    ∙ zero-add (total kind card (r ∷ before) rs)
    ∙ total-own kind card (r ∷ before) rs
    ∙ ap (λ (l : List Record). total kind card l (own card rs)) (own-other card r before u.1)
    ∙ sym (ap (total kind card (own card before)) (own-other card r rs u.1)))
    (eqb-cases (card_of r) card)
