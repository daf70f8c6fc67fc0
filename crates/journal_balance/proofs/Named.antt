-- Whether the record at a place has a kind, card and retry number, by the bytes that the code reads there.
use Prim.Native.Nat.{ℕ, ◌+◌, ◌≤◌}
use mathlib.Core.Path.{◌≡◌, ap, sym, ◌∙◌}
use mathlib.Core.Bool.{true, false}
use mathlib.Core.List.{List}
use mathlib.Core.Logic.{⊎_elim}
use native.Mathlib.Omega.{arith}
use lib.Dec.{eqb}
use lib.ListN.{length}
use borrow.Author.Tests.{eq-eqb, ne_eqb}
use Rattle.std.specs.Prelude.{Ok}
use Rattle.layout.proofs.Laws.Res.{eqb-cases}
use Rattle.buf.specs.Promise.{ReadsEight}
use Rattle.journal.specs.declared.Record.{Record}
use Rattle.journal.specs.declared.Found.TheVariants.{Whole}
use Rattle.journal.specs.Record.{length_of, kind_of, card_of, retry_of, kind_at, found_in}
use Rattle.journal_balance.specs.Parts.{Named}
use Rattle.journal.specs.Laws.Found.{tells, found-kind, found-card, found_retry}
use Rattle.journal_balance.specs.Laws.Counts.{and-false}
use Rattle.journal.proofs.Numbers.{number_is}

module _ (d : List ℕ) (p kind card retry : ℕ) where
  pub named-kind : (kind_at d p ≡ kind → ⊥) → Named d p kind card retry false
  named-kind n r next e = rw (ne_eqb kind (kind_of r) (λ q. n (sym (q ∙ found-kind d p r next e))))

  module _ (long : length_of kind ≡ 21) where
    whole : kind_at d p ≡ kind → (r : Record) (next : ℕ) → found_in d p ≡ Ok (Whole r next) → p + 21 ≤ length d
    whole k r next e = let t = tells d p r next e in omega (arith, t.past, t.inside, ap length_of k)

    retry_is : kind_at d p ≡ kind → (y : ℕ) → ReadsEight d (p + 9) y → (r : Record) (next : ℕ) → found_in d p ≡ Ok (Whole r next) → retry_of r ≡ y
    retry_is k y ry r next e =
        let w = whole k r next e in
        found_retry d p r next e (ap length_of k ∙ long) ∙ sym (number_is 8 d (p + 9) (omega arith) ry)

    card-is : kind_at d p ≡ kind → (x : ℕ) → ReadsEight d (p + 1) x → (r : Record) (next : ℕ) → found_in d p ≡ Ok (Whole r next) → card_of r ≡ x
    card-is k x rx r next e =
        let w = whole k r next e in
        found-card d p r next e ∙ sym (number_is 8 d (p + 1) (omega arith) rx)

    -- a record of another kind is another one, whatever its bytes are
    pub named_retry : (y : ℕ) → ReadsEight d (p + 9) y → (y ≡ retry → ⊥) → Named d p kind card retry false
    named_retry y ry n r next e =
        ⊎_elim
        (λ u. rw (ne_eqb retry (retry_of r) (λ q. n (sym (q ∙ retry_is u.1 y ry r next e))), and-false (eqb card (card_of r)), and-false (eqb kind (kind_of r))))
        (λ u. named-kind u.1 r next e)
        (eqb-cases (kind_at d p) kind)

    pub named-card : (x : ℕ) → ReadsEight d (p + 1) x → (x ≡ card → ⊥) → Named d p kind card retry false
    named-card x rx n r next e =
        ⊎_elim
        (λ u. rw (ne_eqb card (card_of r) (λ q. n (sym (q ∙ card-is u.1 x rx r next e))), and-false (eqb kind (kind_of r))))
        (λ u. named-kind u.1 r next e)
        (eqb-cases (kind_at d p) kind)

    pub named-yes : (y : ℕ) → ReadsEight d (p + 9) y → y ≡ retry → (x : ℕ) → ReadsEight d (p + 1) x → x ≡ card → kind_at d p ≡ kind → Named d p kind card retry true
    named-yes y ry q x rx c k r next e =
        rw (
          eq-eqb kind (kind_of r) (sym (found-kind d p r next e ∙ k)),
          eq-eqb card (card_of r) (sym (card-is k x rx r next e ∙ c)),
          eq-eqb retry (retry_of r) (sym (retry_is k y ry r next e ∙ q)),
        )

    -- where card and retry number are these, the kind tells
    pub named-last : (y : ℕ) → ReadsEight d (p + 9) y → y ≡ retry → (x : ℕ) → ReadsEight d (p + 1) x → x ≡ card → Named d p kind card retry (eqb (kind_at d p) kind)
    named-last y ry q x rx c =
        ⊎_elim
        (λ u. rw (eq-eqb (kind_at d p) kind u.1) (named-yes y ry q x rx c u.1))
        (λ u. rw (ne_eqb (kind_at d p) kind u.1) (named-kind u.1))
        (eqb-cases (kind_at d p) kind)
