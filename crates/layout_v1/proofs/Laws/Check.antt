-- The check's loop: `Checking` says that the rest of the check, from here on, answers what the whole does. One law for each thing that the loop does. The first
-- key stands where row 0's suffix does; of the row before, its share and the place of its suffix are known.
use Rattle.std.specs.Prelude.{ℕ, zero, suc, ◌+◌, ◌<◌, ◌≤◌, ◌≡◌, refl, Bool, true, false, cond, List, [], eqb, length, drop}
use Rattle.std.proofs.Common.{ap, sym, ◌∙◌, ⊎_elim, arith, length-drop, take-take, length-take-le}
use Rattle.layout.specs.Res.{Res, ok, refuse, bind}
use Rattle.layout.specs.Key.{Key, compare, rank_is, may_follow}
use Rattle.layout.specs.RowRead.{RowRead, key_of}
use Rattle.layout.specs.Trailer.{Trailer, trailer_of, data_of, Region, region_of, all_offsets}
use Rattle.layout.specs.Check.{read_rank}
use Rattle.layout.proofs.Laws.Res.{eqb-cases, spend}
use Rattle.layout.specs.Laws.Order.{may_by}
use Rattle.layout.proofs.Laws.Order.{may-by}
use Rattle.layout_v1.specs.RowRead.{read_row}
use Rattle.layout_v1.specs.Check.{before, row_numbered, passed_row, check_row, check_from, check}
use Rattle.layout_v1.proofs.Laws.RowReads.{RowEnds, read_row-ends}
use Rattle.layout_v1.specs.Laws.Joined.{key_at}
use Rattle.layout_v1.specs.Laws.Check.{Checking, First, first_at, first_is, here, rows_of}

-- ---- before the rows

module _ (b : List ℕ) where
  pub check-trailer : {n : ℕ} → trailer_of b ≡ refuse n → refuse n ≡ check b
  unfolding check
  check-trailer e = rw e

  module _ (t : Trailer) (e : trailer_of b ≡ ok t) where
    pub check-offsets : {n : ℕ} → all_offsets b t ≡ refuse n → refuse n ≡ check b
    unfolding check
    check-offsets o = rw (e, o)

    pub check-rows : {x : Res ℕ} → all_offsets b t ≡ ok tt → x ≡ rows_of b t → x ≡ check b
    unfolding check
    check-rows o r = rw (e, o) r

-- ---- where the first key stands

module _ (d : List ℕ) (rows len : ℕ) (f : First d rows len) where
  before-is : before (first_is d len) rows ≡ first_is d len
  before-is =
      ⊎_elim
      (λ z. rw z.0 (sym (ap (λ (n : ℕ). first_is d n) (f.none z.1))))
      (λ z. rw z.0)
      (eqb-cases rows 0)

  first-long : length (first_is d len) ≡ len
  first-long = length-take-le len (drop first_at d) (rw (length-drop first_at d) f.inside)

  most-is : length (before (first_is d len) rows) ≡ len
  most-is = ap length before-is ∙ first-long

-- ---- one row

-- the first key's length after a row
abbrev pub len_after : ℕ → ℕ → RowRead → ℕ
len_after rows len r = cond (eqb rows 0) r.suffix_len len

module _ (b : List ℕ) (t : Trailer) (rows len s at n seq : ℕ) (f : First (data_of b t) rows len) where
  abbrev d : List ℕ
  d = data_of b t

  pub row-region : {m : ℕ} → region_of b t rows ≡ refuse m → refuse m ≡ check_row b t (here d rows len s at n seq)
  unfolding check_row row_numbered
  row-region e = rw e

  module _ (g : Region) (e : region_of b t rows ≡ ok g) where
    as_first : {x : Res RowRead} → read_row d g.start g.end len ≡ x → read_row d g.start g.end (length (before (first_is d len) rows)) ≡ x
    as_first p = ap (read_row d g.start g.end) (most-is d rows len f) ∙ p

    pub row-no : {m : ℕ} → read_row d g.start g.end len ≡ refuse m → refuse m ≡ check_row b t (here d rows len s at n seq)
    unfolding check_row row_numbered
    row-no p = rw (e, as_first p)

    module _ (r : RowRead) (p : read_row d g.start g.end len ≡ ok r) where
      ends : RowEnds d g.start len r
      ends = read_row-ends d g.start g.end len r p

      -- its key, in its two parts
      key-is : key_of d (before (first_is d len) rows) r ≡ key_at d first_at r.shared r.suffix_at r.suffix_len
      key-is =
          ap (λ (k : Key). key_of d k r) (before-is d rows len f)
          ∙ rw (take-take r.shared len (drop first_at d) ends.shares)

      abbrev pub may_row : Bool
      may_row = may_by (compare (key_at d first_at r.shared r.suffix_at r.suffix_len) (key_at d first_at s at n)) seq r.seq

      order : may_follow (rank_is (key_at d first_at s at n) seq) (read_rank d (before (first_is d len) rows) r) ≡ may_row
      order =
          ap (λ (k : Key). may_follow (rank_is (key_at d first_at s at n) seq) (rank_is k r.seq)) key-is
          ∙ may-by (rank_is (key_at d first_at s at n) seq) (rank_is (key_at d first_at r.shared r.suffix_at r.suffix_len) r.seq)

      pub row-falls : may_row ≡ false → refuse 17 ≡ check_row b t (here d rows len s at n seq)
      unfolding check_row row_numbered
      row-falls h = rw (e, as_first p, order, h)

      module _ (z : rows ≡ 0 → g.start ≡ 0) where
        -- row 0's suffix is its key
        first_key : rows ≡ 0 → key_of d [] r ≡ first_is d r.suffix_len
        first_key q =
            let none : r.shared ≡ 0 = omega (arith, ends.shares, f.none q) in
            let place : r.suffix_at ≡ first_at = omega (arith, ends.suffixes, z q) in
            rw (none, place)

        first-after : cond (eqb rows 0) (key_of d [] r) (first_is d len) ≡ first_is d (len_after rows len r)
        first-after =
            ⊎_elim
            (λ y. rw y.0 (first_key y.1))
            (λ y. rw y.0)
            (eqb-cases rows 0)

        passed_is_lem : passed_row d (here d rows len s at n seq) r ≡ here d (suc rows) (len_after rows len r) r.shared r.suffix_at r.suffix_len r.seq
        passed_is_lem = rw (first-after, key-is)

        pub row-passed : may_row ≡ true → check_row b t (here d rows len s at n seq) ≡ ok (here d (suc rows) (len_after rows len r) r.shared r.suffix_at r.suffix_len r.seq)
        unfolding check_row row_numbered
        row-passed h = rw (e, as_first p, order, h) (ap ok passed_is_lem)

        -- where the first key then stands, and both shares
        pub first_on : First d (suc rows) (len_after rows len r)
        first_on =
            let room = ends.room in
            let inside = ends.inside in
            record {
              none = λ q. absurd (omega arith);
              inside = ⊎_elim (λ y. rw y.0 (omega (arith, z y.1))) (λ y. rw y.0 f.inside) (eqb-cases rows 0);
            }

        pub shares-on : r.shared ≤ len_after rows len r
        shares-on = ⊎_elim (λ y. rw y.0 (omega (arith, ends.shares, f.none y.1))) (λ y. rw y.0 ends.shares) (eqb-cases rows 0)

-- ---- the loop

pub checking-start : (b : List ℕ) (t : Trailer) → Checking b t 0 0 0 0 0 0
checking-start b t =
    record {
      left = t.count;
      counts = omega arith;
      first = record { none = λ q. refl; inside = omega arith };
      shares = omega arith;
      suffix = omega arith;
      makes = refl;
    }

module _ (b : List ℕ) (t : Trailer) (rows len s at n seq : ℕ) (c : Checking b t rows len s at n seq) where
  pub checking-over : t.count ≤ rows → ok rows ≡ rows_of b t
  checking-over h = over c.left (omega (arith, c.counts)) c.makes
    where
      over : (left : ℕ) → left ≡ 0 → check_from left b t (here (data_of b t) rows len s at n seq) ≡ rows_of b t → ok rows ≡ rows_of b t
      over zero z m = unfold check_from in m
      over (suc left) z m = absurd (omega arith)

  module _ (h : rows < t.count) where
    -- with rows left, one row and then the rest is the whole
    stepped : {A : Type 0} → ((left : ℕ) → suc rows + left ≡ t.count → bind (check_row b t (here (data_of b t) rows len s at n seq)) (λ q. check_from left b t q) ≡ rows_of b t → A) → A
    unfolding check_from
    stepped k =
        spend (λ (m : ℕ). check_from m b t (here (data_of b t) rows len s at n seq)) c.left (λ z. absurd (omega (arith, c.counts))) c.makes
        λ more is m. k more (omega (arith, c.counts)) m

    pub checking-no : {m : ℕ} → refuse m ≡ check_row b t (here (data_of b t) rows len s at n seq) → refuse m ≡ rows_of b t
    checking-no e = stepped λ left q m. rw (sym e) at m

    pub checking-more : (len' s' at' n' seq' : ℕ) → First (data_of b t) (suc rows) len' → s' ≤ len' → at' + n' ≤ length (data_of b t)
        → check_row b t (here (data_of b t) rows len s at n seq) ≡ ok (here (data_of b t) (suc rows) len' s' at' n' seq') → Checking b t (suc rows) len' s' at' n' seq'
    checking-more len' s' at' n' seq' f x y e =
        stepped λ left q m. record { left = left; counts = q; first = f; shares = x; suffix = y; makes = rw e at m }
