-- One row of the walk, by what was met: one law for each exit of the code, over the region and the row that were read on the way to it.
use Prim.Native.Nat.{ℕ, ◌+◌, ◌-◌, ◌<◌, ◌≤◌}
use mathlib.Core.Path.{◌≡◌, ap, ◌∙◌}
use mathlib.Core.Bool.{Bool, true, false, cond}
use mathlib.Core.List.{List, ◌++◌}
use native.Mathlib.Numerals.{add-one}
use native.Mathlib.Omega.{arith}
use lib.Dec.{eqb}
use lib.ListN.{length, take, drop}
use Rattle.layout.specs.Res.{ok, refuse}
use Rattle.layout.specs.Key.{Key, Ordering, compare}
use Rattle.layout.specs.RowRead.{RowRead}
use Rattle.layout.specs.Trailer.{Trailer, data_of, Region, region_of, offset_at, all_offsets}
use Rattle.layout.specs.Laws.Order.{may_by}
use Rattle.layout.proofs.Laws.Trailer.{region_of-tells, all_offsets-tell}
use Rattle.layout_v1.specs.RowRead.{read_row}
use Rattle.layout_v1.proofs.Laws.RowReads.{RowEnds, read_row-ends}
use Rattle.layout_v1.specs.Laws.Joined.{key_at}
use Rattle.layout_v1.proofs.Laws.Joined.{keys-lent}
use Rattle.layout_v1.specs.Laws.Check.{first_at, rows_of}
use Rattle.layout_v1.proofs.Laws.Check.{len_after, row-region, row-no, row-falls, row-passed, first_on, shares-on, checking-no, checking-more}
use Rattle.block_check_v2.specs.Laws.{may-told}
use Rattle.block_check_v1.specs.declared.Passed.{Passed}
use Rattle.block_check_v1.specs.Walk.{Stands}

abbrev pub passed_from : ℕ → ℕ → ℕ → ℕ → ℕ → Passed
passed_from len s at n seq = record { first_len = len; shared = s; suffix_at = at; suffix_len = n; seq = seq }

-- the bytes that are lent for a suffix, after those that are shared
abbrev pub key_lent : List ℕ → ℕ → ℕ → ℕ → Key
key_lent d s at n = take s (drop first_at d) ++ take (at + n - at) (drop at d)

module _ (b : List ℕ) (t : Trailer) (k : ℕ) (p : Passed) (st : Stands b t k p) (h : k < t.count) where
  pub walk-region : {n : ℕ} → region_of b t k ≡ refuse n → refuse n ≡ rows_of b t
  walk-region e =
      checking-no b t k p.first_len p.shared p.suffix_at p.suffix_len p.seq st h
      (row-region b t k p.first_len p.shared p.suffix_at p.suffix_len p.seq st.first e)

  module _ (g : Region) (e : region_of b t k ≡ ok g) where
    pub walk_no : {n : ℕ} → read_row (data_of b t) g.start g.end p.first_len ≡ refuse n → refuse n ≡ rows_of b t
    walk_no q =
        checking-no b t k p.first_len p.shared p.suffix_at p.suffix_len p.seq st h
        (row-no b t k p.first_len p.shared p.suffix_at p.suffix_len p.seq st.first g e q)

    module _ (r : RowRead) (q : read_row (data_of b t) g.start g.end p.first_len ≡ ok r) where
      ends : RowEnds (data_of b t) g.start p.first_len r
      ends = read_row-ends (data_of b t) g.start g.end p.first_len r q

      -- its suffix, and the bytes of the first key that it and the row before share, stand inside
      pub walk-suffix : r.suffix_at + r.suffix_len ≤ length (data_of b t)
      walk-suffix = let w = ends in omega (arith, w.suffixes, w.room, w.inside)

      pub walk-shares : (first_at + r.shared ≤ length (data_of b t)) × (first_at + p.shared ≤ length (data_of b t))
      walk-shares =
          let w = ends in (
            omega (arith, w.room, w.inside, w.shares, st.first.inside),
            omega (arith, w.room, w.inside, st.shares, st.first.inside),
          )

      module _ {o : Ordering} {m : Bool}
          (told : o ≡ compare (key_lent (data_of b t) r.shared r.suffix_at r.suffix_len) (key_lent (data_of b t) p.shared p.suffix_at p.suffix_len))
          (may : m ≡ may_by o p.seq r.seq) where
        order : {x : Bool} → m ≡ x
            → may_by (compare (key_at (data_of b t) first_at r.shared r.suffix_at r.suffix_len) (key_at (data_of b t) first_at p.shared p.suffix_at p.suffix_len)) p.seq r.seq ≡ x
        order f =
            may-told _ _ p.seq r.seq (keys-lent (data_of b t) first_at r.shared r.suffix_at r.suffix_len p.shared p.suffix_at p.suffix_len told) may f

        pub walk-falls : m ≡ false → refuse 17 ≡ rows_of b t
        walk-falls f =
            checking-no b t k p.first_len p.shared p.suffix_at p.suffix_len p.seq st h
            (row-falls b t k p.first_len p.shared p.suffix_at p.suffix_len p.seq st.first g e r q (order f))

        -- row 0 starts at 0
        starts : all_offsets b t ≡ ok tt → k ≡ 0 → g.start ≡ 0
        starts a z = (region_of-tells b t k g e).from ∙ ap (offset_at b t) z ∙ (all_offsets-tell b t tt a).first

        pub walk-on : m ≡ true → all_offsets b t ≡ ok tt → (len : ℕ) → len ≡ cond (eqb k 0) r.suffix_len p.first_len
            → Stands b t (k + 1) (passed_from len r.shared r.suffix_at r.suffix_len r.seq)
        walk-on f a len is =
            let z = starts a in
            rw (is, add-one k)
            (checking-more b t k p.first_len p.shared p.suffix_at p.suffix_len p.seq st h
            (len_after k p.first_len r) r.shared r.suffix_at r.suffix_len r.seq
            (first_on b t k p.first_len p.shared p.suffix_at p.suffix_len p.seq st.first g e r q z)
            (shares-on b t k p.first_len p.shared p.suffix_at p.suffix_len p.seq st.first g e r q z)
            walk-suffix
            (row-passed b t k p.first_len p.shared p.suffix_at p.suffix_len p.seq st.first g e r q z (order f)))
