-- The rows of a region as they are listed: the row of number i is entry i of the list, and as many rows end at or before a position as are counted there. By the rows, one at a time.
use Prim.Native.Nat.{ℕ, zero, suc, ◌+◌, ◌<◌, ◌≤◌}
use Rattle.std.proofs.Math.Path.{◌≡◌, refl, sym}
use Rattle.std.proofs.Common.{ap, ◌∙◌, ⊎_elim, arith}
use mathlib.Core.List.{List, [], ◌∷◌}
use Rattle.std.specs.Prelude.{eqb, length, get_or}
use borrow.Author.Tests.{lt-ltb}
use Rattle.layout.specs.Res.{Res, ok, refuse}
use Rattle.layout.specs.Key.{Key}
use Rattle.layout.specs.RowRead.{RowRead, key_of}
use Rattle.layout.specs.Trailer.{Trailer, data_of, Region, region_of, row_in}
use Rattle.layout.specs.Number.{ended_from, ended_by, number_at}
use Rattle.layout.specs.Cursor.{Keyed, keyed}
use Rattle.demands.specs.Reads.{region_rows, row_number, Reads, Names}
use Rattle.demands.specs.AnyOrder.{region_at}
use Rattle.demands.specs.Pairs.{ended_of}
use Rattle.layout.proofs.Laws.Res.{bind-then, ltb-cases, ok-inj}
use Rattle.layout.proofs.Laws.Carry.{key_of-length}
use Rattle.layout.proofs.Laws.Number.{number_in}
use Rattle.layout.proofs.Laws.Tells.{row_in-ends}
use Rattle.layout.proofs.Laws.Trailer.{region_of-tells}
use Rattle.demands.specs.Laws.Reads.{region-at, region-first}
use Rattle.demands.specs.Laws.Numbered.{number-first, number-next}
use Rattle.demands.specs.Laws.AnyOrder.{many, cut_at}

module _ (d : List ℕ) (g : Region) where
  -- at the region's end there is no row
  no_row : (at len : ℕ) (r : RowRead) → g.end ≤ at → row_in d g at len ≡ ok r → ⊥
  no_row at len r h e = let w = row_in-ends d g at len r e in omega (arith, w.least, w.within)

  no_number : (i at : ℕ) (before : Key) (k : Keyed) → g.end ≤ at → row_number i d g at before ≡ ok k → ⊥
  unfolding row_number
  no_number zero at before k h e = bind-then (row_in d g at (length before)) _ k e λ r u _. no_row at (length before) r h u
  no_number (suc i) at before k h e = bind-then (row_in d g at (length before)) _ k e λ r u _. no_row at (length before) r h u

  -- the row of number i, and entry i
  entry : (ks : List Keyed) (left at : ℕ) (before : Key) → region_rows left d g at before ≡ ok ks → g.end ≤ at + left → (i : ℕ) (k : Keyed) → row_number i d g at before ≡ ok k
      → (i < length ks) × (get_or ks i k ≡ k)
  entry [] left at before p h i k e =
      region-at left d g at before [] p h
      (λ over _. absurd (no_number i at before k over e))
      (λ r qs m lt u more enough is. absurd (let z : ◌≡◌ {A = ℕ} 0 1 = cc in omega arith))
  entry (x ∷ xs) left at before p h i k e =
      region-first left d g at before x xs p h λ r m u first more enough.
      go i e r u first (λ j v. entry xs m r.next (key_of d before r) more enough j k v)
    where
      go : (i : ℕ) → row_number i d g at before ≡ ok k → (r : RowRead) → row_in d g at (length before) ≡ ok r → keyed r (key_of d before r) ≡ x
          → ((j : ℕ) → row_number j d g r.next (key_of d before r) ≡ ok k → (j < length xs) × (get_or xs j k ≡ k)) → (i < length (x ∷ xs)) × (get_or (x ∷ xs) i k ≡ k)
      go zero e r u first ih = (omega arith, sym first ∙ ok-inj (sym (number-first d g at before r u) ∙ e))
      go (suc i) e r u first ih = let q = ih i (sym (number-next d g i at before r u) ∙ e) in (omega (arith, q.0), q.1)

  of_entry : (ks : List Keyed) (left at : ℕ) (before : Key) → region_rows left d g at before ≡ ok ks → g.end ≤ at + left → (i : ℕ) (k : Keyed) → i < length ks
      → row_number i d g at before ≡ ok (get_or ks i k)
  of_entry [] left at before p h i k l = absurd (omega arith)
  of_entry (x ∷ xs) left at before p h i k l =
      region-first left d g at before x xs p h λ r m u first more enough.
      go i l r u first (λ j v. of_entry xs m r.next (key_of d before r) more enough j k v)
    where
      go : (i : ℕ) → i < length (x ∷ xs) → (r : RowRead) → row_in d g at (length before) ≡ ok r → keyed r (key_of d before r) ≡ x
          → ((j : ℕ) → j < length xs → row_number j d g r.next (key_of d before r) ≡ ok (get_or xs j k)) → row_number i d g at before ≡ ok (get_or (x ∷ xs) i k)
      go zero l r u first ih = number-first d g at before r u ∙ ap ok first
      go (suc i) l r u first ih = number-next d g i at before r u ∙ ih i (omega arith)

  -- past a position no row ends at or before it
  none-ended : (ks : List Keyed) (left at : ℕ) (before : Key) (stop : ℕ) → region_rows left d g at before ≡ ok ks → g.end ≤ at + left → stop ≤ at → ended_of stop ks ≡ 0
  unfolding ended_of
  none-ended [] left at before stop p h s = refl
  none-ended (x ∷ xs) left at before stop p h s =
      region-first left d g at before x xs p h λ r m u first more enough.
      let on = (row_in-ends d g at (length before) r u).least in
      rw (← first, lt-ltb stop r.next (omega arith)) (none-ended xs m r.next (key_of d before r) stop more enough (omega arith))

  rows-ended : (ks : List Keyed) (left at : ℕ) (before : Key) (stop steps : ℕ) → region_rows left d g at before ≡ ok ks → g.end ≤ at + left → stop ≤ at + steps
      → ended_from steps d g stop at (length before) ≡ ended_of stop ks
  unfolding ended_from ended_of
  rows-ended ks left at before stop zero p h s = sym (none-ended ks left at before stop p h (omega arith))
  rows-ended [] left at before stop (suc steps) p h s = go (row_in d g at (length before)) refl
    where
      go : (x : Res RowRead) → row_in d g at (length before) ≡ x → ended_from (suc steps) d g stop at (length before) ≡ 0
      go (ok r) e =
          region-at left d g at before [] p h
          (λ over _. absurd (no_row at (length before) r over e))
          (λ r qs m lt u more enough is. absurd (let z : ◌≡◌ {A = ℕ} 0 1 = cc in omega arith))
      go (refuse n) e = rw e
  rows-ended (x ∷ xs) left at before stop (suc steps) p h s =
      region-first left d g at before x xs p h λ r m u first more enough.
      let on = (row_in-ends d g at (length before) r u).least in
      rw (← first, u)
      (⊎_elim
      (λ c. rw c.0 (sym (none-ended xs m r.next (key_of d before r) stop more enough (omega (arith, c.1)))))
      (λ c.
      rw (c.0, ← key_of-length d at g.end before (eqb at g.start) r u)
      (ap suc (rows-ended xs m r.next (key_of d before r) stop steps more enough (omega arith))))
      (ltb-cases stop r.next))

-- ---- in a block whose rows are read

module _ (b : List ℕ) (t : Trailer) (rss : List (List Keyed)) (q : Reads b t rss) where
  fuel : (region : ℕ) (g : Region) → region_of b t region ≡ ok g → g.end ≤ g.start + t.size
  fuel region g u = omega (arith, (region_of-tells b t region g u).inside)

  pub names_entry : (region number : ℕ) (k : Keyed) → Names b t region number k
      → (region < length rss) × (number < length (region_at rss region)) × (get_or (region_at rss region) number k ≡ k)
  names_entry region number k w =
      let c = cut_at b t rss q region w.inside in
      let same : w.g ≡ c.g = ok-inj (sym w.used ∙ c.used) in
      let is = ap (λ (g : Region). row_number number (data_of b t) g g.start []) (sym same) ∙ w.is in
      let e = entry (data_of b t) c.g (region_at rss region) t.size c.g.start [] c.rows-here (fuel region c.g c.used) number k is in
      (omega (arith, many b t rss q, w.inside), e.0, e.1)

  pub entry_named : (region number : ℕ) (k : Keyed) → region < length rss → number < length (region_at rss region) → Names b t region number (get_or (region_at rss region) number k)
  entry_named region number k h l =
      let i : region < t.count = omega (arith, many b t rss q) in
      let c = cut_at b t rss q region i in
      record {
        g = c.g;
        inside = i;
        used = c.used;
        is = of_entry (data_of b t) c.g (region_at rss region) t.size c.g.start [] c.rows-here (fuel region c.g c.used) number k l;
      }

  pub number_counts : (region at : ℕ) → region < length rss → number_at b t region at ≡ ended_of at (region_at rss region)
  unfolding ended_by
  number_counts region at h =
      let c = cut_at b t rss q region (omega (arith, many b t rss q)) in
      number_in b t region at c.g c.used
      ∙ rows-ended (data_of b t) c.g (region_at rss region) t.size c.g.start [] at at c.rows-here (fuel region c.g c.used) (omega arith)
