-- The check of the earlier format accepts a block exactly when trailer and offsets are good, each row ends where the next one starts, and each may follow the one before; and then
-- it answers how many there are. Both directions go along the check's own fold, row by row; of rows that are read it tells no more than their order.
use Rattle.std.specs.Prelude.{ℕ, zero, suc, ◌+◌, ◌≤◌, ◌≡◌, true, cond, not, List, [], ◌∷◌, eqb, length}
use Rattle.std.proofs.Math.Path.{refl}
use Rattle.std.proofs.Common.{ap, sym, ◌∙◌, arith, zero-add, add-one, ne_eqb}
use Rattle.std.proofs.lemmas.List.{length-map}
use Rattle.std.proofs.lemmas.Bool.{not-false}
use Rattle.layout.specs.Res.{ok, guard}
use Rattle.layout.specs.Key.{Key, Rank, rank_is, no_rank, may_follow, Rising}
use Rattle.layout.specs.RowRead.{key_of}
use Rattle.layout.specs.Trailer.{Trailer, trailer_of, data_of, all_offsets}
use Rattle.layout.specs.Check.{read_rank}
use Rattle.layout.specs.Cursor.{Keyed, keyed}
use Rattle.layout_v1.specs.Check.{before, row_numbered, Passed, passed_is, check_row, check_from, check}
use Rattle.demands.specs.Reads.{ranks_of, verdict}
use Rattle.demands_v1.specs.Reads.{RowsFrom, first_key_of, Reads, Accepts}
use Rattle.layout.proofs.Laws.Res.{bind-then, guard-then, ok-inj}
use Rattle.layout.proofs.Laws.Trailer.{trailer_of-tells}
use Rattle.demands.specs.Laws.Accept.{verdict-none, verdict-next, after-guard, verdict-rising}

abbrev rank_of : Keyed → Rank
rank_of k = rank_is k.key k.row.seq

-- the first key once row i is passed
abbrev first_past : List ℕ → Key → ℕ → Keyed → Key
first_past d first i k = cond (eqb i 0) (key_of d [] k.row) first

module _ (b : List ℕ) (t : Trailer) where
  -- one row of the check: read, and then told by its order alone
  check-step : (left i : ℕ) (first : Key) (last : Rank) (k : Keyed) → row_numbered b t first i ≡ ok k.row → key_of (data_of b t) (before first i) k.row ≡ k.key
      → check_from (suc left) b t (passed_is i first last)
      ≡ guard (not (may_follow last (rank_of k))) 17 (check_from left b t (passed_is (suc i) (first_past (data_of b t) first i k) (rank_of k)))
  unfolding check_from check_row
  check-step left i first last k e key =
      rw (e, key)
      (after-guard (not (may_follow last (rank_of k))) (passed_is (suc i) (first_past (data_of b t) first i k) (rank_of k)) (λ (q : Passed). check_from left b t q) _ refl)

  check-none : (p : Passed) → check_from 0 b t p ≡ ok p.rows
  unfolding check_from
  check-none p = refl

  -- and back
  check-row : (left i : ℕ) (first : Key) (last : Rank) (n : ℕ) → check_from (suc left) b t (passed_is i first last) ≡ ok n
      → {A : Type 0} → ((k : Keyed) → row_numbered b t first i ≡ ok k.row → key_of (data_of b t) (before first i) k.row ≡ k.key → may_follow last (rank_of k) ≡ true
      → check_from left b t (passed_is (suc i) (first_past (data_of b t) first i k) (rank_of k)) ≡ ok n → A) → A
  unfolding check_from check_row
  check-row left i first last n e f =
      bind-then (check_row b t (passed_is i first last)) _ n e λ q p e₁.
      bind-then (row_numbered b t first i) _ q p λ r pr p₁.
      guard-then (not (may_follow last (read_rank (data_of b t) (before first i) r))) 17 _ q p₁ λ u p₂.
      f (keyed r (key_of (data_of b t) (before first i) r)) pr refl (not-false _ u) (ap (check_from left b t) (ok-inj p₂) ∙ e₁)

  past_first : (first : Key) (i : ℕ) (k : Keyed) → 1 ≤ i → first_past (data_of b t) first i k ≡ first
  past_first first i k h = rw (ne_eqb i 0 (λ z. absurd (omega arith)))

  -- from row 1 on, the first key stays
  rest-verdict : (i : ℕ) (first : Key) (last : Rank) (ks : List Keyed) → 1 ≤ i → RowsFrom b t first i ks
      → check_from (length ks) b t (passed_is i first last) ≡ verdict last (ranks_of ks) i
  rest-verdict i first last [] h p = check-none (passed_is i first last) ∙ sym (verdict-none last i)
  rest-verdict i first last (k ∷ ks) h p =
      check-step (length ks) i first last k p.0.is p.0.key-is
      ∙ ap (guard (not (may_follow last (rank_of k))) 17)
      (ap (λ (f : Key). check_from (length ks) b t (passed_is (suc i) f (rank_of k))) (past_first first i k h) ∙ rest-verdict (suc i) first (rank_of k) ks (omega arith) p.1
      ∙ ap (verdict (rank_of k) (ranks_of ks)) (sym (add-one i)))
      ∙ sym (verdict-next last (rank_of k) (ranks_of ks) i)

  rest-accepted : (left i : ℕ) (first : Key) (last : Rank) (n : ℕ) → 1 ≤ i → i + left ≡ t.count → check_from left b t (passed_is i first last) ≡ ok n
      → (ks : List Keyed) × RowsFrom b t first i ks × Rising last (ranks_of ks) × (length ks ≡ left) × (n ≡ i + length ks)
  rest-accepted zero i first last n h c e = ([], tt, tt, refl, omega (arith, ok-inj (sym (check-none (passed_is i first last)) ∙ e)))
  rest-accepted (suc left) i first last n h c e =
      check-row left i first last n e λ k is key may more.
      let w = rest-accepted left (suc i) first (rank_of k) n (omega arith) (omega arith)
      (ap (λ (f : Key). check_from left b t (passed_is (suc i) f (rank_of k))) (sym (past_first first i k h)) ∙ more) in
      let m = w.3 in
      let s = w.4 in
      (k ∷ w.0, (record { inside = omega arith; is = is; key-is = key }, w.1), (may, w.2), omega arith, omega arith)

  -- row 0 shares with nothing, whatever is said to be the first key
  zeroth : (first : Key) → row_numbered b t [] 0 ≡ row_numbered b t first 0
  unfolding row_numbered
  zeroth first = refl

-- of a block whose rows are read, the check tells no more than their order
pub check-verdict : (b : List ℕ) (t : Trailer) (rows : List Keyed) → Reads b t rows → check b ≡ verdict no_rank (ranks_of rows) 0
unfolding check
check-verdict b t rows q = rw (q.trailer-good, q.offsets-good) (ap (λ (m : ℕ). check_from m b t (passed_is 0 [] no_rank)) (sym q.count-is) ∙ go rows q.rows-read some)
  where
    some : 1 ≤ length rows
    some = omega (arith, q.count-is, (trailer_of-tells b t q.trailer-good).1)

    go : (rows : List Keyed) → RowsFrom b t (first_key_of rows) 0 rows → 1 ≤ length rows → check_from (length rows) b t (passed_is 0 [] no_rank) ≡ verdict no_rank (ranks_of rows) 0
    go [] p h = absurd (omega arith)
    go (k ∷ ks) p h =
        check-step b t (length ks) 0 [] no_rank k (zeroth b t k.key ∙ p.0.is) p.0.key-is
        ∙ ap (guard (not (may_follow no_rank (rank_of k))) 17)
        (ap (λ (f : Key). check_from (length ks) b t (passed_is 1 f (rank_of k))) p.0.key-is ∙ rest-verdict b t 1 k.key (rank_of k) ks (omega arith) p.1)
        ∙ sym (verdict-next no_rank (rank_of k) (ranks_of ks) 0)

pub check_accepts : (b : List ℕ) (n : ℕ) → check b ≡ ok n → Accepts b n
unfolding check
check_accepts b n e =
    bind-then (trailer_of b) _ n e λ t p e₁.
    bind-then (all_offsets b t) _ n e₁ λ u q e₂.
    go t p q t.count refl (trailer_of-tells b t p).1 e₂
  where
    go : (t : Trailer) {u : Unit {0}} → trailer_of b ≡ ok t → all_offsets b t ≡ ok u → (m : ℕ) → m ≡ t.count → 1 ≤ t.count → check_from m b t (passed_is 0 [] no_rank) ≡ ok n → Accepts b n
    go t p q zero c h e = absurd (omega arith)
    go t p q (suc m) c h e =
        check-row b t m 0 [] no_rank n e λ k is key may more.
        let w = rest-accepted b t m 1 k.key (rank_of k) n (omega arith) (omega arith) (ap (λ (f : Key). check_from m b t (passed_is 1 f (rank_of k))) (sym key) ∙ more) in
        let l = w.3 in
        let s = w.4 in
        record {
          t = t;
          rows = k ∷ w.0;
          reads =
              record {
                trailer-good = p;
                offsets-good = q;
                rows-read = (record { inside = h; is = sym (zeroth b t k.key) ∙ is; key-is = key }, w.1);
                count-is = omega arith;
              };
          in_order = (may, w.2);
          many = omega arith;
        }

pub accepts_check : (b : List ℕ) (n : ℕ) → Accepts b n → check b ≡ ok n
accepts_check b n a =
    check-verdict b a.t a.rows a.reads
    ∙ verdict-rising no_rank (ranks_of a.rows) 0 a.in_order
    ∙ ap ok (zero-add (length (ranks_of a.rows)) ∙ length-map a.rows rank_of ∙ sym a.many)
