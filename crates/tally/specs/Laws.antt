-- What follows from the definitions: the verdict is exactly the check's, and an accepted block has all its rows counted; and from a zero tally no block reaches the largest number,
-- since no count is above the block's length: each row takes at least 12 bytes of it and those of its value.
use Prim.Native.Nat.{ℕ, zero, suc, ◌+◌, ◌<◌, ◌≤◌, zero-le}
use Rattle.std.specs.Prelude.{◌≡◌, refl, Bool, List, [], ◌∷◌, ◌++◌, ltb, eqb, length, get_or}
use Rattle.std.proofs.Common.{ap, arith}
use Rattle.std.proofs.Math.Path.{sym}
use Rattle.std.proofs.Math.Numerals.{add-one}
use Rattle.layout.specs.Res.{Res, ok, refuse, whether}
use Rattle.layout.specs.Key.{Key}
use Rattle.layout.specs.Place.{fixed_at}
use Rattle.layout.specs.Row.{Kind, value, tombstone, merge}
use Rattle.layout.specs.RowRead.{RowRead, Held, holds, gone, merges, held_as, Lengths, value_at, seq_at, Body, flags_at, body_tests, body_at, row_at, read_row, key_of}
use Rattle.layout.specs.Trailer.{Trailer, trailer_of, data_of, offset_at, Region, region_of, all_offsets}
use Rattle.layout.specs.Check.{check}
use Rattle.layout.specs.Cursor.{Keyed}
use Rattle.demands.specs.Reads.{region_rows, regions_rows, all_rows}
use Rattle.demands.specs.Rows.{Rows}
use Rattle.demands.specs.Demand2.{has-rows}
use Rattle.layout.proofs.Laws.Res.{bind-then, guard-then, ok-inj}
use Rattle.demands.specs.Laws.Reads.{RegionIs, over, more, region-is, RegionsAre, next, regions-are, regions-none, all_rows-none, all_rows-next}
use Rattle.layout.specs.Laws.Tells.{RowTells}
use Rattle.layout.proofs.Laws.Tells.{head_at-tells, body_at-tells, times_at-ends, row_at-tells, row_in-ends}
use Rattle.layout.proofs.Laws.Trailer.{region_of-tells, trailer_of-tells}
use Rattle.tally.specs.declared.Tally.{Tally}
use Rattle.tally.specs.Tally.{zero_tally, largest, counted, counted_rows, block_rows, tally_block}

-- ---- the verdict

-- the rows that an accepted block has are those that are counted
pub rows-tally : (t : Tally) (b : List ℕ) (n : ℕ) (tr : Trailer) (rows : List Keyed) → Rows b n tr rows → check b ≡ ok n → tally_block t b ≡ ok (counted_rows t rows)
unfolding tally_block
rows-tally t b n tr rows q h = rw (h, q.reads.trailer-good, q.reads.offsets-good, q.reads.rows-read, q.are)

-- a tally comes of exactly the blocks that the check accepts, and every other block has the check's refusal
pub verdict : (t : Tally) (b : List ℕ) → whether (tally_block t b) ≡ whether (check b)
verdict t b = go (check b) refl
  where
    go : (x : Res ℕ) → check b ≡ x → whether (tally_block t b) ≡ whether x
    go (ok n) e = let a = has-rows b n e in rw (rows-tally t b n a.0 a.1 a.2 e)
    go (refuse n) e = unfold tally_block in rw e

-- ---- no count is above the block's length

-- no count of the tally is above n
pub record Within (n : ℕ) (t : Tally) : Type 0 where
  pub few-rows : t.rows ≤ n
  pub few_tombstones : t.tombstones ≤ n
  pub few-merges : t.merges ≤ n
  pub few_bytes : t.value_bytes ≤ n

-- ---- the bytes that rows take

abbrev carries : Held → ℕ
carries (holds at n) = n
carries gone = 0
carries (merges at n) = n

unfoldable weight : List Keyed → ℕ
weight [] = 0
weight (k ∷ ks) = 12 + carries k.row.held + weight ks

weight-append : (xs ys : List Keyed) → weight (xs ++ ys) ≡ weight xs + weight ys
unfolding weight
weight-append [] ys = omega arith
weight-append (x ∷ xs) ys = omega (arith, weight-append xs ys)

body-carries : (d : List ℕ) (l : Lengths) (b : Body) → body_at d l ≡ ok b → carries b.held ≤ l.value_len
unfolding body_at
body-carries d l b e =
    bind-then (body_tests (length d) l.value_len (seq_at l + 9)) _ b e λ _ _ e₂.
    bind-then (fixed_at 8 d (seq_at l)) _ b e₂ λ q _ e₃.
    bind-then (flags_at (get_or d q.next 0)) _ b e₃ λ f _ e₄.
    rw (← ap (λ (x : Body). x.held) (ok-inj e₄)) (go f.kind)
  where
    go : (k : Kind) → carries (held_as k (value_at l) l.value_len) ≤ l.value_len
    go value = omega arith
    go tombstone = zero-le
    go merge = omega arith

row-takes : (d : List ℕ) (at end prev_len : ℕ) (restart : Bool) (r : RowRead) → read_row d at end prev_len restart ≡ ok r → at + 12 + carries r.held ≤ r.next
unfolding read_row
row-takes d at end prev_len restart r e =
    bind-then (row_at d at prev_len restart) _ r e λ g p q.
    guard-then (ltb end g.next) 16 _ r q λ _ c.
    rw (← ok-inj c) (go g (row_at-tells d at prev_len restart g p))
  where
    go : (g : RowRead) → RowTells d at prev_len restart g → at + 12 + carries g.held ≤ g.next
    go g w =
        let h = head_at-tells d at prev_len restart w.l w.head in
        let b = body_at-tells d w.l w.b w.body in
        let k = times_at-ends d w.b.next w.b.flags w.t w.times (omega (arith, b.1, b.2)) in
        rw (← w.is) (omega (arith, h.moved, b.2, k.0, body-carries d w.l w.b w.body))

region-weight : (left : ℕ) (d : List ℕ) (g : Region) (at : ℕ) (before : Key) (ks : List Keyed) → region_rows left d g at before ≡ ok ks → at ≤ g.end → at + weight ks ≤ g.end
unfolding weight
region-weight zero d g at before ks e h = rw (none e) (omega arith)
  where
    none : region_rows 0 d g at before ≡ ok ks → ks ≡ []
    none e = unfold region_rows in sym (ok-inj e)
region-weight (suc left) d g at before ks e h = go ks (region-is left d g at before ks e) (region-weight left d g)
  where
    go : (ks : List Keyed) → RegionIs left d g at before ks
        → ((at : ℕ) (before : Key) (ks : List Keyed) → region_rows left d g at before ≡ ok ks → at ≤ g.end → at + weight ks ≤ g.end) → at + weight ks ≤ g.end
    go ks (over w) ih = omega arith
    go ks (more r qs w p u) ih =
        let takes = row-takes d at g.end (length before) (eqb at g.start) r p in
        let rest = ih r.next (key_of d before r) qs u (row_in-ends d g at (length before) r p).within in
        omega (arith, takes, rest)

-- from the first byte of a region on, the rows of it and of all regions after it take no more than the data has
regions-weight : (left : ℕ) (b : List ℕ) (t : Trailer) (region : ℕ) (rss : List (List Keyed)) → regions_rows left b t region ≡ ok rss → region + left ≡ t.count → 1 ≤ left
    → offset_at b t region + weight (all_rows rss) ≤ t.size
regions-weight zero b t region rss e z h = absurd (omega arith)
regions-weight (suc left) b t region rss e z h = go rss (regions-are left b t region rss e) (regions-weight left b t (suc region))
  where
    after : (n : ℕ) (g : Region) (rest : List (List Keyed)) → left ≡ n → region_of b t region ≡ ok g → regions_rows n b t (suc region) ≡ ok rest
        → ((rss : List (List Keyed)) → regions_rows n b t (suc region) ≡ ok rss → suc region + n ≡ t.count → 1 ≤ n → offset_at b t (suc region) + weight (all_rows rss) ≤ t.size)
        → g.end + weight (all_rows rest) ≤ t.size
    after zero g rest l u w ih =
        let tells = region_of-tells b t region g u in
        rw (regions-none b t (suc region) rest w, all_rows-none) (unfold weight in omega (arith, tells.inside))
    after (suc n) g rest l u w ih =
        let tells = region_of-tells b t region g u in
        let inner = tells.inner (omega arith) in
        rw (inner.0, add-one region) (ih rest w (omega arith) (omega arith))

    go : (rss : List (List Keyed)) → RegionsAre left b t region rss
        → ((rss : List (List Keyed)) → regions_rows left b t (suc region) ≡ ok rss → suc region + left ≡ t.count → 1 ≤ left → offset_at b t (suc region) + weight (all_rows rss) ≤ t.size)
        → offset_at b t region + weight (all_rows rss) ≤ t.size
    go rss (next g rows rest u q w) ih =
        let tells = region_of-tells b t region g u in
        let here = region-weight t.size (data_of b t) g g.start [] rows q (omega (arith, tells.rises)) in
        let then = after left g rest refl u w ih in
        rw (all_rows-next rows rest, weight-append rows (all_rows rest)) (omega (arith, tells.from, here, then))

-- ---- the counts

within_more : (m n : ℕ) (t : Tally) → m ≤ n → Within m t → Within n t
within_more m n t h w =
    record {
      few-rows = omega (arith, w.few-rows);
      few_tombstones = omega (arith, w.few_tombstones);
      few-merges = omega (arith, w.few-merges);
      few_bytes = omega (arith, w.few_bytes);
    }

counted-within : (n : ℕ) (t : Tally) (h : Held) → Within n t → Within (n + (12 + carries h)) (counted t h)
counted-within n t (holds at m) w =
    record {
      few-rows = omega (arith, w.few-rows);
      few_tombstones = omega (arith, w.few_tombstones);
      few-merges = omega (arith, w.few-merges);
      few_bytes = omega (arith, w.few_bytes);
    }
counted-within n t gone w =
    record {
      few-rows = omega (arith, w.few-rows);
      few_tombstones = omega (arith, w.few_tombstones);
      few-merges = omega (arith, w.few-merges);
      few_bytes = omega (arith, w.few_bytes);
    }
counted-within n t (merges at m) w =
    record {
      few-rows = omega (arith, w.few-rows);
      few_tombstones = omega (arith, w.few_tombstones);
      few-merges = omega (arith, w.few-merges);
      few_bytes = omega (arith, w.few_bytes);
    }

rows-within : (ks : List Keyed) (n : ℕ) (t : Tally) → Within n t → Within (n + weight ks) (counted_rows t ks)
unfolding counted_rows weight
rows-within [] n t w = within_more n (n + 0) t (omega arith) w
rows-within (k ∷ ks) n t w =
    within_more (n + (12 + carries k.row.held) + weight ks) (n + (12 + carries k.row.held + weight ks)) (counted_rows (counted t k.row.held) ks) (omega arith)
    (rows-within ks (n + (12 + carries k.row.held)) (counted t k.row.held) (counted-within n t k.row.held w))

-- ---- a block

module _ (b : List ℕ) (s : Tally) (e : tally_block zero_tally b ≡ ok s) where
  pub zero-within : Within (length b) s
  unfolding tally_block
  zero-within =
      bind-then (check b) _ s e λ n _ e₁.
      bind-then (block_rows b) _ s e₁ λ rows p q.
      bind-then (trailer_of b) _ rows p λ t good p₁.
      bind-then (all_offsets b t) _ rows p₁ λ _ _ p₂.
      bind-then (regions_rows t.count b t 0) _ rows p₂ λ regions reads p₃.
      let tells = trailer_of-tells b t good in
      let most = regions-weight t.count b t 0 regions reads (omega arith) tells.1 in
      let are : all_rows regions ≡ rows = ok-inj p₃ in
      let is : counted_rows zero_tally rows ≡ s = ok-inj q in
      rw (← is, ← are)
      (within_more (0 + weight (all_rows regions)) (length b) (counted_rows zero_tally (all_rows regions)) (omega (arith, tells.0, most))
      (rows-within (all_rows regions) 0 zero_tally (record { few-rows = zero-le; few_tombstones = zero-le; few-merges = zero-le; few_bytes = zero-le })))

  pub never-reached : length b < largest → (s.rows < largest) × (s.tombstones < largest) × (s.merges < largest) × (s.value_bytes < largest)
  never-reached h =
      let w = zero-within in
      (omega (arith, w.few-rows), omega (arith, w.few_tombstones), omega (arith, w.few-merges), omega (arith, w.few_bytes))
