-- A pair of region and number names one row, and a row has one pair. The row of a number is read after as many rows (`Counted`), so the number is how many rows end at or before its start: in one
-- region the place tells the number. Two regions lie apart in the data, so the place tells the region too. With it: two lists of pairs that name the same rows, one by one, are one list.
use Prim.Native.Nat.{ℕ, zero, suc, ◌+◌, ◌-◌, ◌<◌, ◌≤◌}
use Rattle.std.specs.Prelude.{◌≡◌, refl, length}
use Rattle.std.proofs.Common.{ap, ap₂, sym, ◌∙◌, ⊎_elim, add-one}
use mathlib.Core.List.{List, [], ◌∷◌, ◌++◌, reverse, reverse-cons}
use native.Mathlib.Omega.{arith}
use Rattle.layout.specs.Res.{ok}
use Rattle.layout.specs.Key.{Key}
use Rattle.layout.specs.RowRead.{RowRead, key_of}
use Rattle.layout.specs.Trailer.{Trailer, trailer_of, data_of, offset_at, Region, region_of, row_in}
use Rattle.layout.specs.Number.{ended_by, number_at}
use Rattle.layout.specs.Cursor.{Cursor, Keyed, keyed}
use Rattle.demands.specs.Reads.{region_rows, row_number, regions_rows, Reads, all_rows, Names}
use Rattle.demands.specs.Runs.{Walks, stands, gives, backwards}
use Rattle.demands.specs.Pairs.{Pair, pair_is, pairs_of, pairs_in, pairs_from, NamesEach, none, also}
use Rattle.layout.proofs.Laws.Res.{bind-then, ok-inj, ltb-cases}
use Rattle.layout.proofs.Laws.Number.{number_in}
use Rattle.layout.proofs.Laws.Tells.{row_in-ends}
use Rattle.layout.specs.Laws.Trailer.{OffsetsTell}
use Rattle.layout.proofs.Laws.Trailer.{region_of-tells, all_offsets-tell}
use Rattle.demands.specs.Laws.Reads.{RegionsAre, next as next-region, regions-are, regions-none, all_rows-none, all_rows-next, region-first}
use Rattle.demands.specs.Laws.Counted.{Counted, counted_start, counted-on, counted-here, names_up}

-- ---- the row of a number

record RowAt (d : List ℕ) (g : Region) (n : ℕ) (k : Keyed) : Type 0 where
  pub at : ℕ
  pub before : Key
  pub counted : Counted d g at before n
  pub row : RowRead
  pub reads : row_in d g at (length before) ≡ ok row
  pub is : keyed row (key_of d before row) ≡ k

module _ (d : List ℕ) (g : Region) where
  number-from : (i n at : ℕ) (before : Key) (k : Keyed) → Counted d g at before n → row_number i d g at before ≡ ok k → RowAt d g (n + i) k
  unfolding row_number
  number-from zero n at before k c e =
      bind-then (row_in d g at (length before)) _ k e λ r u v.
      let z : n ≡ n + 0 = omega arith in
      record { at = at; before = before; counted = rw (← z) c; row = r; reads = u; is = ok-inj v }
  number-from (suc i) n at before k c e =
      bind-then (row_in d g at (length before)) _ k e λ r u v.
      let z : (n + 1) + i ≡ n + suc i = omega arith in
      rw (← z) (number-from i (n + 1) r.next (key_of d before r) k (counted-on d g at before n c r u) v)

  row-at : (n : ℕ) (k : Keyed) → row_number n d g g.start [] ≡ ok k → RowAt d g n k
  row-at n k e = let z : 0 + n ≡ n = omega arith in rw (← z) (number-from n 0 g.start [] k (counted_start d g) e)

  -- its number is how many rows end at or before its start, and it stands in its region
  record Placed (n : ℕ) (k : Keyed) : Type 0 where
    number : ended_by d g k.row.start ≡ n
    low : g.start ≤ k.row.start
    some : k.row.start < k.row.next
    high : k.row.next ≤ g.end

  placed : (n : ℕ) (k : Keyed) → row_number n d g g.start [] ≡ ok k → Placed n k
  placed n k e = go (row-at n k e)
    where
      go : RowAt d g n k → Placed n k
      go w =
          let t = row_in-ends d g w.at (length w.before) w.row w.reads in
          let far = w.counted.counting.far in
          rw (← w.is)
          (record {
            number = ap (ended_by d g) t.starts ∙ counted-here d g w.at w.before n w.counted;
            low = omega (arith, t.starts);
            some = omega (arith, t.starts, t.least);
            high = t.within;
          })

-- ---- in a block

module _ (b : List ℕ) (t : Trailer) where
  -- the pair tells the row, whole: its place, its fields and its key
  pub names_one : (region number : ℕ) (k k' : Keyed) → Names b t region number k → Names b t region number k' → k ≡ k'
  names_one region number k k' v w =
      let same : v.g ≡ w.g = ok-inj (sym v.used ∙ w.used) in
      ok-inj (sym v.is ∙ ap (λ (g : Region). row_number number (data_of b t) g g.start []) same ∙ w.is)

  -- the number is how many rows of the region end at or before the row's start
  pub names_number : (region number : ℕ) (k : Keyed) → Names b t region number k → number ≡ number_at b t region k.row.start
  names_number region number k w = sym (number_in b t region k.row.start w.g w.used ∙ (placed (data_of b t) w.g number k w.is).number)

  module _ (offs : OffsetsTell b t) where
    offsets-apart : (further r : ℕ) → r + 1 + further < t.count → offset_at b t (r + 1) ≤ offset_at b t (r + 1 + further)
    offsets-apart zero r h = let z : r + 1 + 0 ≡ r + 1 = omega arith in rw z (omega arith)
    offsets-apart (suc further) r h =
        let z : r + 1 + suc further ≡ r + 1 + further + 1 = omega arith in
        let on = offs.rises (r + 1 + further) (omega arith) in
        let ih = offsets-apart further r (omega arith) in
        rw z (omega arith)

    -- a row of an earlier region starts before
    earlier : (r r' n n' : ℕ) (k k' : Keyed) → Names b t r n k → Names b t r' n' k' → r < r' → k.row.start < k'.row.start
    earlier r r' n n' k k' v w h =
        let m : r + 1 + (r' - (r + 1)) ≡ r' = omega arith in
        let p = placed (data_of b t) v.g n k v.is in
        let p' = placed (data_of b t) w.g n' k' w.is in
        let ends = ((region_of-tells b t r v.g v.used).inner (omega (arith, w.inside))).0 in
        let starts = (region_of-tells b t r' w.g w.used).from in
        let apart : offset_at b t (r + 1) ≤ offset_at b t r' = rw m at (offsets-apart (r' - (r + 1)) r (omega (arith, w.inside))) in
        omega (arith, p.some, p.high, p'.low)

    pub row_one : (r r' n n' : ℕ) (k k' : Keyed) → Names b t r n k → Names b t r' n' k' → k.row.start ≡ k'.row.start → (r ≡ r') × (n ≡ n')
    row_one r r' n n' k k' v w s =
        ⊎_elim
        (λ u. absurd (omega (arith, earlier r r' n n' k k' v w u.1)))
        (λ u.
        ⊎_elim
        (λ x. absurd (omega (arith, earlier r' r n' n k' k w v x.1)))
        (λ x.
        let same : r ≡ r' = omega (arith, u.1, x.1) in
        (same, names_number r n k v ∙ rw (same, s) (sym (names_number r' n' k' w))))
        (ltb-cases r' r))
        (ltb-cases r r')

-- ---- rows and their pairs, one by one

module _ (b : List ℕ) (t : Trailer) where
  each_append : (ps qs : List Pair) (ks ls : List Keyed) → NamesEach b t ps ks → NamesEach b t qs ls → NamesEach b t (ps ++ qs) (ks ++ ls)
  each_append ps qs ks ls none w = w
  each_append ps qs ks ls (also p k ps' ks' n v) w = also p k (ps' ++ qs) (ks' ++ ls) n (each_append ps' qs ks' ls v w)

  each_back : (ps : List Pair) (ks : List Keyed) → NamesEach b t ps ks → NamesEach b t (reverse ps) (backwards ks)
  unfolding backwards
  each_back ps ks none = none
  each_back ps ks (also p k ps' ks' n v) = rw (reverse-cons p ps') (each_append (reverse ps') (p ∷ []) (backwards ks') (k ∷ []) (each_back ps' ks' v) (also p k [] [] n none))

  -- the same rows have the same pairs
  each-one : OffsetsTell b t → (ps qs : List Pair) (ks : List Keyed) → NamesEach b t ps ks → NamesEach b t qs ks → ps ≡ qs
  each-one offs ps qs ks none none = refl
  each-one offs ps qs ks (also p k ps' ks' n v) (also q k'' qs' ks'' m w) =
      let one = row_one b t offs p.region q.region p.number q.number k k n m refl in
      let same : p ≡ q = ap₂ pair_is one.0 one.1 in
      let rest : ps' ≡ qs' = each-one offs ps' qs' ks' v w in
      cc

  -- a walk's
  walk-each : trailer_of b ≡ ok t → (room : ℕ) (c c' : Cursor) (ks : List Keyed) (w : Walks b room c ks c') → NamesEach b t (pairs_of w) ks
  unfolding pairs_of
  walk-each good room c c' ks (stands _) = none
  walk-each good room c c' ks (gives _ m l k ks' t' region number e n _ w) =
      let same : t' ≡ t = ok-inj (sym e ∙ good) in
      also (pair_is region number) k (pairs_of w) ks' (rw same at n) (walk-each good room m l ks' w)

  -- the block's
  region-each : (region : ℕ) (g : Region) → region < t.count → region_of b t region ≡ ok g → (ks : List Keyed) (left at : ℕ) (before : Key) (n : ℕ) → Counted (data_of b t) g at before n
      → region_rows left (data_of b t) g at before ≡ ok ks → g.end ≤ at + left → NamesEach b t (pairs_in region n ks) ks
  unfolding pairs_in
  region-each region g i u [] left at before n c e h = none
  region-each region g i u (k ∷ ks) left at before n c e h =
      region-first left (data_of b t) g at before k ks e h λ r m p first more enough.
      also (pair_is region n) k (pairs_in region (suc n) ks) ks
      (rw (← first) (names_up b t region g u i at before n r c p))
      (region-each region g i u ks m r.next (key_of (data_of b t) before r) (suc n) (rw (add-one n) at (counted-on (data_of b t) g at before n c r p)) more enough)

  regions-each : (left region : ℕ) (rss : List (List Keyed)) → region + left ≡ t.count → regions_rows left b t region ≡ ok rss → NamesEach b t (pairs_from region rss) (all_rows rss)
  unfolding pairs_from
  regions-each zero region rss n p = rw (regions-none b t region rss p, all_rows-none) none
  regions-each (suc left) region rss n p = go rss (regions-are left b t region rss p) (regions-each left (suc region))
    where
      go : (rss : List (List Keyed)) → RegionsAre left b t region rss
          → ((rss : List (List Keyed)) → suc region + left ≡ t.count → regions_rows left b t (suc region) ≡ ok rss → NamesEach b t (pairs_from (suc region) rss) (all_rows rss))
          → NamesEach b t (pairs_from region rss) (all_rows rss)
      go rss (next-region g rows more u q w) ih =
          rw (all_rows-next rows more)
          (each_append (pairs_in region 0 rows) (pairs_from (suc region) more) rows (all_rows more)
          (region-each region g (omega arith) u rows t.size g.start [] 0 (counted_start (data_of b t) g) q (omega (arith, (region_of-tells b t region g u).inside)))
          (ih more (omega arith) w))

  pub rows-each : (rss : List (List Keyed)) → Reads b t rss → NamesEach b t (pairs_from 0 rss) (all_rows rss)
  rows-each rss q = regions-each t.count 0 rss (omega arith) q.rows-read

  module _ (rss : List (List Keyed)) (q : Reads b t rss) (rows : List Keyed) (are : rows ≡ all_rows rss) (room : ℕ) (c c' : Cursor) where
    offs : OffsetsTell b t
    offs = all_offsets-tell b t tt q.offsets-good

    each : NamesEach b t (pairs_from 0 rss) rows
    each = rw are (rows-each rss q)

    pub pairs-up : (w : Walks b room c rows c') → pairs_of w ≡ pairs_from 0 rss
    pairs-up w = each-one offs (pairs_of w) (pairs_from 0 rss) rows (walk-each q.trailer-good room c c' rows w) each

    pub pairs-down : (w : Walks b room c (backwards rows) c') → pairs_of w ≡ reverse (pairs_from 0 rss)
    pairs-down w =
        each-one offs (pairs_of w) (reverse (pairs_from 0 rss)) (backwards rows) (walk-each q.trailer-good room c c' (backwards rows) w) (each_back (pairs_from 0 rss) rows each)
