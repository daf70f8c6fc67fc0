-- What the sums take in of the record at a place, by the bytes that the code reads there.
use Prim.Native.Nat.{ℕ, ◌+◌, ◌^◌, ◌<◌}
use mathlib.Core.Path.{◌≡◌, ap, sym, ◌∙◌}
use mathlib.Core.Bool.{Bool, true, false}
use mathlib.Core.List.{List}
use native.Mathlib.Omega.{arith}
use Rattle.std.specs.Prelude.{Ok}
use Rattle.journal.specs.declared.Record.{Record}
use Rattle.journal_balance.specs.declared.Sums.{Sums}
use Rattle.journal.specs.declared.Found.TheVariants.{Whole}
use Rattle.journal.specs.Record.{length_of, kind_of, card_of, retry_of, amount_of, number_at, kind_at, found_in}
use Rattle.journal_balance.specs.Counts.{alike, some}
use Rattle.journal_balance.specs.Parts.{Passed, Earlier, named, CountsOne}
use Rattle.journal.specs.Laws.Found.{length-long, found-kind, found-card, found_retry, found-amount}
use Rattle.journal_balance.specs.Laws.Counts.{takes-closed, takes-other, takes-close, takes-double, takes-debit, takes-up}

module _ (d : List ℕ) (at kind card : ℕ) (s : Sums) (k : kind ≡ kind_at d at) (some' : 0 < length_of kind) where
  kind-is : (r : Record) (next : ℕ) → found_in d at ≡ Ok (Whole r next) → kind_of r ≡ kind
  kind-is r next e = found-kind d at r next e ∙ sym k

  card-is : (x : ℕ) → x ≡ number_at 8 d (at + 1) → (r : Record) (next : ℕ) → found_in d at ≡ Ok (Whole r next) → card_of r ≡ x
  card-is x q r next e = found-card d at r next e ∙ sym q

  pub one-closed : s.closed ≡ true → CountsOne d at card s s
  one-closed c = record { sums = λ before r next p e q. takes-closed card before r s q c; small = omega arith }

  module _ (x : ℕ) (rx : x ≡ number_at 8 d (at + 1)) where
    pub one-other : (x ≡ card → ⊥) → CountsOne d at card s s
    one-other n = record { sums = λ before r next p e q. takes-other card before r s q (λ m. n (sym (card-is x rx r next e) ∙ m)); small = omega arith }

    module _ (mine : x ≡ card) where
      pub one-close : kind ≡ 3 → CountsOne d at card s (record { ups = s.ups; downs = s.downs; closed = true })
      one-close t = record { sums = λ before r next p e q. takes-close card before r s q (kind-is r next e ∙ t) (card-is x rx r next e ∙ mine); small = omega arith }

      module _ (n : kind ≡ 3 → ⊥) (y : ℕ) (ry : y ≡ number_at 8 d (at + 9)) where
        long : length_of (kind_at d at) ≡ 21
        long = sym (ap length_of k) ∙ length-long kind some' n

        retry_is : (r : Record) (next : ℕ) → found_in d at ≡ Ok (Whole r next) → retry_of r ≡ y
        retry_is r next e = found_retry d at r next e long ∙ sym ry

        not-close : (r : Record) (next : ℕ) → found_in d at ≡ Ok (Whole r next) → kind_of r ≡ 3 → ⊥
        not-close r next e t = n (sym (kind-is r next e) ∙ t)

        -- what the search said of the kind, card and retry number, said of the record
        found-is : (b : Bool) → Earlier d at kind card y b → (before : List Record) → Passed d at before → (r : Record) (next : ℕ) → found_in d at ≡ Ok (Whole r next) → some (alike r) before ≡ b
        found-is b f before p r next e =
            let same : kind_of r ≡ kind = kind-is r next e in
            let own : card_of r ≡ card = card-is x rx r next e ∙ mine in
            let try : retry_of r ≡ y = retry_is r next e in
            (λ i. some (named (same i) (own i) (try i)) before) ∙ sym (f before p)

        pub one-double : Earlier d at kind card y true → CountsOne d at card s s
        one-double f = record { sums = λ before r next p e q. takes-double card before r s q (not-close r next e) (found-is true f before p r next e); small = omega arith }

        module _ (f : Earlier d at kind card y false) (o : s.closed ≡ false) (a : ℕ) (ra : a ≡ number_at 4 d (at + 17)) (few : a < 2 ^ 32) where
          amount-is : (r : Record) (next : ℕ) → found_in d at ≡ Ok (Whole r next) → a ≡ amount_of r
          amount-is r next e = ra ∙ sym (found-amount d at r next e long)

          pub one-debit : kind ≡ 1 → CountsOne d at card s (record { ups = s.ups; downs = s.downs + a; closed = s.closed })
          one-debit t =
              record {
                sums = λ before r next p e q.
                    let u = takes-debit card before r s q (not-close r next e) o (card-is x rx r next e ∙ mine) (found-is false f before p r next e) (kind-is r next e ∙ t) a (amount-is r next e) in
                    record { ups = u.ups; downs = u.downs; closed = o ∙ u.closed };
                small = omega arith;
              }

          pub one_up : kind ≡ 2 → CountsOne d at card s (record { ups = s.ups + a; downs = s.downs; closed = s.closed })
          one_up t =
              record {
                sums = λ before r next p e q.
                    let u = takes-up card before r s q (not-close r next e) o (card-is x rx r next e ∙ mine) (found-is false f before p r next e) (kind-is r next e ∙ t) a (amount-is r next e) in
                    record { ups = u.ups; downs = u.downs; closed = o ∙ u.closed };
                small = omega arith;
              }
