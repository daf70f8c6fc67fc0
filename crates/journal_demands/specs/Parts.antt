-- Parts of a journal: what stands at a place of it is told by its bytes up to the record's end. So a record of a part is one of the whole, and a record of the whole that ends
-- inside the part is one of the part.
use Rattle.std.specs.Prelude.{ℕ, ◌+◌, ◌-◌, ◌≤◌, ◌<◌, ◌≡◌, List, ◌++◌, length, take, drop, Ok}
use Rattle.std.proofs.Math.Path.{ap}
use Rattle.std.proofs.Common.{sym, ◌∙◌, arith, take-take, take-add, get_or-take, length-take-le, drop_at}
use Rattle.layout.specs.Fixed.{unbig}
use Rattle.journal.specs.declared.Record.{Record}
use Rattle.journal.specs.declared.Record.TheVariants.{Debit, TopUp, Close}
use Rattle.journal.specs.declared.Found.TheVariants.{Whole, Incomplete, End}
use Rattle.journal.specs.Record.{length_of, number_at, kind_at, body_at, found_in}
use Rattle.journal.specs.Laws.Found.{OneOf, debit, up, close, one_of, body-debit, body_up, body-close, found-end, found-whole, found_incomplete, tells}

module _ (n : ℕ) (d : List ℕ) (h : n ≤ length d) where
  long : length (take n d) ≡ n
  long = length-take-le n d h

  -- bytes inside the part
  part_bytes : (m p : ℕ) → p + m ≤ n → take m (drop p (take n d)) ≡ take m (drop p d)
  part_bytes m p k =
      let sum : n ≡ p + (n - p) = omega arith in
      let cut : take n d ≡ take p d ++ take (n - p) (drop p d) = ap (λ (i : ℕ). take i d) sum ∙ take-add p (n - p) d in
      ap (λ (l : List ℕ). take m (drop p l)) cut
      ∙ ap (take m) (drop_at (take p d) (take (n - p) (drop p d)) p (length-take-le p d (omega arith)))
      ∙ take-take m (n - p) (drop p d) (omega arith)

  part-number : (m p : ℕ) → p + m ≤ n → number_at m (take n d) p ≡ number_at m d p
  unfolding number_at
  part-number m p k = ap unbig (part_bytes m p k)

  pub part-kind : (at : ℕ) → at < n → kind_at (take n d) at ≡ kind_at d at
  part-kind at k = get_or-take n d at 0 k

  part_body : (k at : ℕ) → 0 < length_of k → at + length_of k ≤ n → body_at k (take n d) at ≡ body_at k d at
  part_body k at s f = go (one_of k s)
    where
      go : OneOf k → body_at k (take n d) at ≡ body_at k d at
      go (debit a b) =
          let one = part-number 8 (at + 1) (omega arith) in
          let two = part-number 8 (at + 9) (omega arith) in
          let three = part-number 4 (at + 17) (omega arith) in
          body-debit k (take n d) at a ∙ (λ i. Debit (one i) (two i) (three i)) ∙ sym (body-debit k d at a)
      go (up a b) =
          let one = part-number 8 (at + 1) (omega arith) in
          let two = part-number 8 (at + 9) (omega arith) in
          let three = part-number 4 (at + 17) (omega arith) in
          body_up k (take n d) at a ∙ (λ i. TopUp (one i) (two i) (three i)) ∙ sym (body_up k d at a)
      go (close a b) = body-close k (take n d) at a ∙ ap Close (part-number 8 (at + 1) (omega arith)) ∙ sym (body-close k d at a)

  -- a record of the whole that ends inside the part
  pub found_shorter : (at : ℕ) (r : Record) (next : ℕ) → found_in d at ≡ Ok (Whole r next) → next ≤ n → found_in (take n d) at ≡ Ok (Whole r next)
  found_shorter at r next e f =
      let t = tells d at r next e in
      let inside : at < n = omega (arith, t.past, t.some) in
      let same : kind_at (take n d) at ≡ kind_at d at = part-kind at inside in
      let len : length_of (kind_at (take n d) at) ≡ length_of (kind_at d at) = ap length_of same in
      found-whole (take n d) at (omega (arith, long)) (λ z. absurd (omega (arith, t.some))) (omega (arith, long, t.past))
      ∙ (λ i. Ok (Whole (body_at (same i) (take n d) at) (at + len i)))
      ∙ ap (λ (q : Record). Ok (Whole q (at + length_of (kind_at d at)))) (part_body (kind_at d at) at t.some (omega (arith, t.past)) ∙ sym t.is)
      ∙ ap (λ (m : ℕ). Ok (Whole r m)) (sym t.past)

  -- a record of the part
  pub found-longer : (at : ℕ) (r : Record) (next : ℕ) → found_in (take n d) at ≡ Ok (Whole r next) → found_in d at ≡ Ok (Whole r next)
  found-longer at r next e =
      let t = tells (take n d) at r next e in
      let inside : at < n = omega (arith, t.past, t.some, t.inside, long) in
      let same : kind_at (take n d) at ≡ kind_at d at = part-kind at inside in
      let len : length_of (kind_at (take n d) at) ≡ length_of (kind_at d at) = ap length_of same in
      found-whole d at (omega arith) (λ z. absurd (omega (arith, t.some))) (omega (arith, long, t.past, t.inside))
      ∙ ap (λ (q : Record). Ok (Whole q (at + length_of (kind_at d at)))) (sym (part_body (kind_at d at) at (omega (arith, t.some)) (omega (arith, long, t.past, t.inside))))
      ∙ sym (λ i. Ok (Whole (body_at (same i) (take n d) at) (at + len i)))
      ∙ ap (λ (q : Record). Ok (Whole q (at + length_of (kind_at (take n d) at)))) (sym t.is)
      ∙ ap (λ (m : ℕ). Ok (Whole r m)) (sym t.past)

  -- a record that the cut goes through
  pub found-cut : (at : ℕ) → at < n → 0 < length_of (kind_at d at) → n < at + length_of (kind_at d at) → found_in (take n d) at ≡ Ok Incomplete
  found-cut at k s f =
      let len : length_of (kind_at (take n d) at) ≡ length_of (kind_at d at) = ap length_of (part-kind at k) in
      found_incomplete (take n d) at (omega (arith, long)) (λ z. absurd (omega arith)) (omega (arith, long))

  pub found-past : (at : ℕ) → n ≤ at → found_in (take n d) at ≡ Ok End
  found-past at k = found-end (take n d) at (omega (arith, long))
