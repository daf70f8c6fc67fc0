-- The check's loop: `Checking` says that the rest of the check, from here on, answers what the whole does. One law for each thing that the loop does. The array
-- carries the key of the row before, and its sequence number stands beside it.
use Rattle.std.specs.Prelude.{ℕ, zero, suc, ◌+◌, ◌<◌, ◌≤◌, ◌≡◌, refl, Bool, true, false, cond, List, ltb, eqb, length, take, drop}
use Rattle.std.proofs.Common.{ap, sym, ◌∙◌, arith, lt-ltb, le-ltb}
use Rattle.layout.specs.Res.{Res, ok, refuse, bind}
use Rattle.layout.specs.Limits.{max_key}
use Rattle.layout.specs.Place.{splice}
use Rattle.layout.specs.Key.{Key, compare, rank_is, no_rank, may_follow}
use Rattle.layout.specs.RowRead.{RowRead, read_row, key_length}
use Rattle.layout.specs.Trailer.{Trailer, trailer_of, data_of, Region, region_of, all_offsets, row_in}
use Rattle.layout.specs.Check.{Passed, passed_is, read_rank, check_row, check_from, check}
use Rattle.layout.proofs.Laws.Res.{spend}
use Rattle.layout.specs.Laws.Carry.{Carries, suffix_of}
use Rattle.layout.proofs.Laws.Carry.{read-carried, key_of-length, key-new, key-parts, follows-suffix}
use Rattle.layout.specs.Laws.Order.{may_by}
use Rattle.layout.proofs.Laws.Order.{first-may}
use Rattle.layout.proofs.Laws.Tells.{read_row-ends, row-shares, row_in-ends}
use Rattle.layout.specs.Laws.Check.{Checking}

-- ---- before the rows

module _ (b : List ℕ) where
  pub check-trailer : {n : ℕ} → trailer_of b ≡ refuse n → refuse n ≡ check b
  unfolding check
  check-trailer e = rw e

  module _ (t : Trailer) (e : trailer_of b ≡ ok t) where
    pub check-offsets : {n : ℕ} → all_offsets b t ≡ refuse n → refuse n ≡ check b
    unfolding check
    check-offsets o = rw (e, o)

    pub check-rows : {x : Res ℕ} → all_offsets b t ≡ ok tt → x ≡ check_from t.size b t (passed_is 0 0 no_rank 0) → x ≡ check b
    unfolding check
    check-rows o r = rw (e, o) r

-- ---- one row, from the array that carries the key before it

module _ (b : List ℕ) (t : Trailer) (at region rows seq : ℕ) (key : List ℕ) (len : ℕ) (c : Carries key len) where
  abbrev pub here : Passed
  here = passed_is at region (rank_is (take len key) seq) rows

  pub row-region : {n : ℕ} → region_of b t region ≡ refuse n → refuse n ≡ check_row b t here
  unfolding check_row
  row-region e = rw e

  module _ (g : Region) (e : region_of b t region ≡ ok g) where
    as_carried : {x : Res RowRead} → row_in (data_of b t) g at len ≡ x → row_in (data_of b t) g at (length (take len key)) ≡ x
    as_carried p = read-carried (data_of b t) at g.end (eqb at g.start) key len c p

    pub row-no : {n : ℕ} → row_in (data_of b t) g at len ≡ refuse n → refuse n ≡ check_row b t here
    unfolding check_row
    row-no p = rw (e, as_carried p)

    module _ (r : RowRead) (p : row_in (data_of b t) g at len ≡ ok r) where
      -- the order is told by what follows the shared bytes, and by the two numbers
      order : may_follow (rank_is (take len key) seq) (read_rank (data_of b t) (take len key) r) ≡ may_by (compare (suffix_of (data_of b t) r) (drop r.shared (take len key))) seq r.seq
      order =
          ap (λ (k : List ℕ). may_follow (rank_is (take len key) seq) (rank_is k r.seq)) (sym (key-parts (data_of b t) at g.end (eqb at g.start) key len c r p))
          ∙ follows-suffix key len r.shared (suffix_of (data_of b t) r) seq r.seq (row-shares (data_of b t) at g.end len (eqb at g.start) r (row_in-ends (data_of b t) g at len r p))

      pub row-falls : may_by (compare (suffix_of (data_of b t) r) (drop r.shared (take len key))) seq r.seq ≡ false → refuse 17 ≡ check_row b t here
      unfolding check_row
      row-falls h = rw (e, as_carried p, order, h)

      -- past the row, the array carries its key
      abbrev pub after : Passed
      after = passed_is r.next (cond (ltb r.next g.end) region (region + 1)) (rank_is (take (key_length r) (splice key r.shared (suffix_of (data_of b t) r))) r.seq) (rows + 1)

      pub row-passed : may_by (compare (suffix_of (data_of b t) r) (drop r.shared (take len key))) seq r.seq ≡ true → check_row b t here ≡ ok after
      unfolding check_row
      row-passed h = rw (e, as_carried p, order, h, key-new (data_of b t) at g.end (eqb at g.start) key len c r p)

-- before the first row stands none: any row that is read may be the first
pub first_passes : (d : List ℕ) (at end : ℕ) (before : Key) (restart : Bool) (r : RowRead) → read_row d at end (length before) restart ≡ ok r → may_follow no_rank (read_rank d before r) ≡ true
first_passes d at end before restart r e = first-may (read_rank d before r) (rw (key_of-length d at end before restart r e) (read_row-ends d at end (length before) restart r e).some)

-- ---- the loop

pub checking-start : (b : List ℕ) (t : Trailer) (key : List ℕ) → length key ≡ max_key → Checking b t 0 0 0 0 key 0
checking-start b t key h = record { left = t.size; enough = omega arith; holds = record { few = omega arith; whole = h }; makes = refl }

check_from-over : (left : ℕ) (b : List ℕ) (t : Trailer) (p : Passed) → t.size ≤ p.at → check_from left b t p ≡ ok p.rows
unfolding check_from
check_from-over zero b t p h = refl
check_from-over (suc left) b t p h = rw (le-ltb p.at t.size h)

check_from-step : (left : ℕ) (b : List ℕ) (t : Trailer) (p : Passed) → p.at < t.size → check_from (suc left) b t p ≡ bind (check_row b t p) (λ q. check_from left b t q)
unfolding check_from
check_from-step left b t p h = rw (lt-ltb p.at t.size h)

module _ (b : List ℕ) (t : Trailer) (at region rows seq : ℕ) (key : List ℕ) (len : ℕ) (s : Checking b t at region rows seq key len) where
  pub checking-over : t.size ≤ at → ok rows ≡ check_from t.size b t (passed_is 0 0 no_rank 0)
  checking-over h = sym (check_from-over s.left b t (passed_is at region (rank_is (take len key) seq) rows) h) ∙ s.makes

  module _ (h : at < t.size) where
    -- with steps left, one step is the whole
    stepped : {A : Type 0} → ((left : ℕ) → t.size ≤ at + suc left → bind (check_row b t (passed_is at region (rank_is (take len key) seq) rows)) (λ q. check_from left b t q) ≡ check_from t.size b t (passed_is 0 0 no_rank 0) → A) → A
    stepped f =
        spend (λ (n : ℕ). check_from n b t (passed_is at region (rank_is (take len key) seq) rows)) s.left (λ z. absurd (omega (arith, s.enough))) s.makes
        λ more is m. f more (omega (arith, s.enough)) (sym (check_from-step more b t (passed_is at region (rank_is (take len key) seq) rows) h) ∙ m)

    pub checking-no : (n : ℕ) → check_row b t (passed_is at region (rank_is (take len key) seq) rows) ≡ refuse n → refuse n ≡ check_from t.size b t (passed_is 0 0 no_rank 0)
    checking-no n e = stepped λ left q m. rw e at m

    -- the row that was passed moved on
    pub checking-more : (at' region' rows' seq' : ℕ) (key' : List ℕ) (len' : ℕ) → Carries key' len' → at < at'
        → check_row b t (passed_is at region (rank_is (take len key) seq) rows) ≡ ok (passed_is at' region' (rank_is (take len' key') seq') rows') → Checking b t at' region' rows' seq' key' len'
    checking-more at' region' rows' seq' key' len' c on e =
        stepped λ left q m. record { left = left; enough = omega arith; holds = c; makes = rw e at m }
