-- What the sums take in of one record, case by case: nothing after the card's close, of another card, of a close, of a double; else its amount, to the sum of its kind.
use Rattle.std.specs.Prelude.{ℕ, ◌+◌, ◌≡◌, refl, Bool, true, false, cond, not, ◌&&◌, ◌||◌, List, ◌∷◌, eqb}
use Rattle.std.proofs.Common.{ap, sym, ◌∙◌, ⊎_elim, add-zero, arith, eq-eqb, ne_eqb}
use Rattle.layout.proofs.Laws.Res.{eqb-cases}
use Rattle.journal.specs.declared.Record.{Record}
use Rattle.journal_balance.specs.declared.Sums.{Sums}
use Rattle.journal.specs.Record.{debit_kind, top_up_kind, close_kind, kind_of, card_of, amount_of}
use Rattle.journal_balance.specs.Counts.{alike, closes, some, counts}
use Rattle.journal_balance.specs.Balance.{worth}
use Rattle.journal_balance.specs.Parts.{TakesIn}
use Rattle.journal_balance.specs.Laws.Walk.{some_more, or-true}

pub and-false : (a : Bool) → a && false ≡ false
and-false true = refl
and-false false = refl

off : (a : Bool) {b : Bool} (x : ℕ) → b ≡ false → cond (a && b) x 0 ≡ 0
off a x e = rw (e, and-false a)

module _ (kind card : ℕ) (before : List Record) (r : Record) where
  pub worth-not : counts before r ≡ false → worth kind card before r ≡ 0
  worth-not e = off (eqb (kind_of r) kind) (amount_of r) (rw (e, and-false (eqb (card_of r) card)))

  pub worth-other : (card_of r ≡ card → ⊥) → worth kind card before r ≡ 0
  worth-other n = off (eqb (kind_of r) kind) (amount_of r) (rw (ne_eqb (card_of r) card n))

  pub worth-kind : (kind_of r ≡ kind → ⊥) → worth kind card before r ≡ 0
  worth-kind n = rw (ne_eqb (kind_of r) kind n)

  pub worth-yes : kind_of r ≡ kind → card_of r ≡ card → counts before r ≡ true → worth kind card before r ≡ amount_of r
  worth-yes k c e = rw (eq-eqb (kind_of r) kind k, eq-eqb (card_of r) card c, e)

pub counts-double : (before : List Record) (r : Record) → some (alike r) before ≡ true → counts before r ≡ false
counts-double before r e = rw e

pub counts-closed : (before : List Record) (r : Record) → some (closes (card_of r)) before ≡ true → counts before r ≡ false
counts-closed before r e = rw (e, and-false (not (some (alike r) before)))

pub counts-yes : (before : List Record) (r : Record) → some (alike r) before ≡ false → some (closes (card_of r)) before ≡ false → counts before r ≡ true
counts-yes before r e f = rw (e, f)

-- after its close a card's records are worth nothing; other cards' are not its own
pub worth-closed : (kind card : ℕ) (before : List Record) (r : Record) → some (closes card) before ≡ true → worth kind card before r ≡ 0
worth-closed kind card before r e =
    ⊎_elim (λ u. worth-not kind card before r (counts-closed before r (rw u.1 e))) (λ u. worth-other kind card before r u.1) (eqb-cases (card_of r) card)

-- ---- closes

pub closes-other : (card : ℕ) (r : Record) → (card_of r ≡ card → ⊥) → closes card r ≡ false
closes-other card r n = rw (ne_eqb (card_of r) card n, and-false (eqb (kind_of r) close_kind))

pub closes-kind : (card : ℕ) (r : Record) → (kind_of r ≡ close_kind → ⊥) → closes card r ≡ false
closes-kind card r n = rw (ne_eqb (kind_of r) close_kind n)

pub closes-yes : (card : ℕ) (r : Record) → kind_of r ≡ close_kind → card_of r ≡ card → closes card r ≡ true
closes-yes card r k c = rw (eq-eqb (kind_of r) close_kind k, eq-eqb (card_of r) card c)

-- ---- the sums

module _ (card : ℕ) (before : List Record) (r : Record) (s : Sums) (c : s.closed ≡ some (closes card) before) where
  none : (n : ℕ) {w : ℕ} → w ≡ 0 → n ≡ n + w
  none n e = rw (e, add-zero n)

  stays : closes card r ≡ false → s.closed ≡ some (closes card) (r ∷ before)
  stays e = sym (some_more (closes card) r before ∙ ap (λ (b : Bool). b || some (closes card) before) e ∙ sym c)

  pub takes-closed : s.closed ≡ true → TakesIn card before r s s
  takes-closed e =
      let shut : some (closes card) before ≡ true = sym c ∙ e in
      record {
        ups = none s.ups (worth-closed top_up_kind card before r shut);
        downs = none s.downs (worth-closed debit_kind card before r shut);
        closed = e ∙ sym (some_more (closes card) r before ∙ ap (λ (b : Bool). closes card r || b) shut ∙ or-true (closes card r));
      }

  pub takes-other : (card_of r ≡ card → ⊥) → TakesIn card before r s s
  takes-other n =
      record {
        ups = none s.ups (worth-other top_up_kind card before r n);
        downs = none s.downs (worth-other debit_kind card before r n);
        closed = stays (closes-other card r n);
      }

  pub takes-close : kind_of r ≡ close_kind → card_of r ≡ card → TakesIn card before r s (record { ups = s.ups; downs = s.downs; closed = true })
  takes-close k e =
      record {
        ups = none s.ups (worth-kind top_up_kind card before r (λ q. three (sym k ∙ q)));
        downs = none s.downs (worth-kind debit_kind card before r (λ q. two (sym k ∙ q)));
        closed = sym (some_more (closes card) r before ∙ ap (λ (b : Bool). b || some (closes card) before) (closes-yes card r k e));
      }
    where
      three : close_kind ≡ top_up_kind → ⊥
      three q = omega arith

      two : close_kind ≡ debit_kind → ⊥
      two q = omega arith

  module _ (k : kind_of r ≡ close_kind → ⊥) where
    pub takes-double : some (alike r) before ≡ true → TakesIn card before r s s
    takes-double e =
        record {
          ups = none s.ups (worth-not top_up_kind card before r (counts-double before r e));
          downs = none s.downs (worth-not debit_kind card before r (counts-double before r e));
          closed = stays (closes-kind card r k);
        }

    module _ (open' : s.closed ≡ false) (mine : card_of r ≡ card) (new : some (alike r) before ≡ false) where
      counts_it : counts before r ≡ true
      counts_it = counts-yes before r new (rw mine (sym c ∙ open'))

      still : false ≡ some (closes card) (r ∷ before)
      still = sym open' ∙ stays (closes-kind card r k)

      pub takes-debit : kind_of r ≡ debit_kind → (a : ℕ) → a ≡ amount_of r → TakesIn card before r s (record { ups = s.ups; downs = s.downs + a; closed = false })
      takes-debit d a e =
          record {
            ups = none s.ups (worth-kind top_up_kind card before r (λ q. two (sym d ∙ q)));
            downs = ap (λ (x : ℕ). s.downs + x) (e ∙ sym (worth-yes debit_kind card before r d mine counts_it));
            closed = still;
          }
        where
          two : debit_kind ≡ top_up_kind → ⊥
          two q = omega arith

      pub takes-up : kind_of r ≡ top_up_kind → (a : ℕ) → a ≡ amount_of r → TakesIn card before r s (record { ups = s.ups + a; downs = s.downs; closed = false })
      takes-up d a e =
          record {
            ups = ap (λ (x : ℕ). s.ups + x) (e ∙ sym (worth-yes top_up_kind card before r d mine counts_it));
            downs = none s.downs (worth-kind debit_kind card before r (λ q. two (sym d ∙ q)));
            closed = still;
          }
        where
          two : top_up_kind ≡ debit_kind → ⊥
          two q = omega arith
