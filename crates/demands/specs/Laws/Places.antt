-- Rows that are read stand one after another in the data, so no two start at one place. What stands at a place of two lists together, and of a list taken backwards.
use Rattle.std.specs.Prelude.{ℕ, zero, suc, ◌+◌, ◌<◌, ◌≤◌, ◌≡◌, length}
use Rattle.std.proofs.Common.{ap, sym, ◌∙◌, arith, add-one}
use mathlib.Core.List.{List, [], ◌∷◌, ◌++◌}
use Rattle.std.proofs.Math.Logic.{⊎_elim, inl, inr}
use Rattle.layout.specs.Res.{ok}
use Rattle.layout.specs.Key.{Key}
use Rattle.layout.specs.RowRead.{key_of}
use Rattle.layout.specs.Trailer.{Trailer, data_of, offset_at, Region}
use Rattle.layout.specs.Cursor.{Keyed, keyed}
use Rattle.demands.specs.Reads.{region_rows, regions_rows, Reads, all_rows}
use Rattle.demands.specs.Runs.{backwards}
use Rattle.demands.specs.Walked.{StartsAt, NoneTwice}
use Rattle.layout.proofs.Laws.Res.{ltb-cases}
use Rattle.layout.specs.Laws.Trailer.{RegionTells}
use Rattle.layout.proofs.Laws.Trailer.{region_of-tells}
use Rattle.layout.proofs.Laws.Tells.{row_in-ends}
use Rattle.demands.specs.Laws.Reads.{region-at, ends_at, RegionsAre, next as next-region, regions-are, regions-none, all_rows-none, all_rows-next}
use Rattle.demands.specs.Laws.Descend.{reaches_end}

-- ---- one after another

-- each row starts where the one before ends or behind it, the first at `at` or behind it
abbrev Behind : ℕ → List Keyed → Type 0
Behind at [] = Unit {0}
Behind at (k ∷ ks) = (at ≤ k.row.start) × (k.row.start < k.row.next) × Behind k.row.next ks

behind-append : (at : ℕ) (xs ys : List Keyed) → Behind at xs → Behind (ends_at at xs) ys → Behind at (xs ++ ys)
unfolding ends_at
behind-append at [] ys p q = q
behind-append at (x ∷ xs) ys p q = (p.0, p.1, behind-append x.row.next xs ys p.2 q)

region-behind : (ks : List Keyed) (left : ℕ) (d : List ℕ) (g : Region) (at : ℕ) (before : Key) → region_rows left d g at before ≡ ok ks → g.end ≤ at + left → Behind at ks
region-behind [] left d g at before p h = tt
region-behind (k ∷ ks) left d g at before p h =
    region-at left d g at before (k ∷ ks) p h
    (λ over is. absurd (let z : ◌≡◌ {A = ℕ} 0 1 = cc in omega arith))
    (λ r qs m lt u rest enough is.
    let w = row_in-ends d g at (length before) r u in
    let first : keyed r (key_of d before r) ≡ k = cc in
    let tail : qs ≡ ks = cc in
    let more = region-behind ks m d g r.next (key_of d before r) (rest ∙ ap ok tail) enough in
    rw (← first) (omega (arith, w.starts), omega (arith, w.starts, w.least), more))

regions-behind : (left : ℕ) (b : List ℕ) (t : Trailer) (region : ℕ) (rss : List (List Keyed)) → region + left ≡ t.count → regions_rows left b t region ≡ ok rss
    → Behind (offset_at b t region) (all_rows rss)
regions-behind zero b t region rss n p = rw (regions-none b t region rss p, all_rows-none) tt
regions-behind (suc left) b t region rss n p = go rss (regions-are left b t region rss p) (regions-behind left b t (suc region))
  where
    go : (rss : List (List Keyed)) → RegionsAre left b t region rss
        → ((rss : List (List Keyed)) → suc region + left ≡ t.count → regions_rows left b t (suc region) ≡ ok rss → Behind (offset_at b t (suc region)) (all_rows rss))
        → Behind (offset_at b t region) (all_rows rss)
    go rss (next-region g rows more u q w) ih =
        let here = region-behind rows t.size (data_of b t) g g.start [] q (omega (arith, tells.inside)) in
        rw (all_rows-next rows more, ← tells.from) (behind-append g.start rows (all_rows more) here (rw ends (⊎_elim (λ c. rw (next c.1) (ih more (omega arith) w)) (λ c. last c.1 left n w) (ltb-cases (region + 1) t.count))))
      where
        tells : RegionTells b t region g
        tells = region_of-tells b t region g u

        ends : ends_at g.start rows ≡ g.end
        ends = reaches_end t.size (data_of b t) g g.start [] rows q (omega (arith, tells.inside)) (omega (arith, tells.rises))

        next : region + 1 < t.count → g.end ≡ offset_at b t (suc region)
        next h = (tells.inner h).0 ∙ ap (offset_at b t) (add-one region)

        last : t.count ≤ region + 1 → (left : ℕ) → region + suc left ≡ t.count → regions_rows left b t (suc region) ≡ ok more → Behind g.end (all_rows more)
        last h zero z w = rw (regions-none b t (suc region) more w, all_rows-none) tt
        last h (suc m) z w = absurd (omega arith)

not-before : (at p : ℕ) (ks : List Keyed) → Behind at ks → p < at → StartsAt p ks → ⊥
not-before at p [] b h s = s
not-before at p (k ∷ ks) b h s = ⊎_elim (λ e. omega (arith, b.0, e)) (λ e. not-before k.row.next p ks b.2 (omega (arith, b.0, b.1)) e) s

behind-once : (at : ℕ) (ks : List Keyed) → Behind at ks → NoneTwice ks
behind-once at [] b = tt
behind-once at (k ∷ ks) b = (not-before k.row.next k.row.start ks b.2 b.1, behind-once k.row.next ks b.2)

pub rows-once : (b : List ℕ) (t : Trailer) (rss : List (List Keyed)) → Reads b t rss → NoneTwice (all_rows rss)
rows-once b t rss q = behind-once (offset_at b t 0) (all_rows rss) (regions-behind t.count b t 0 rss (omega arith) q.rows-read)

-- ---- two lists together

pub at_left : (p : ℕ) (xs ys : List Keyed) → StartsAt p xs → StartsAt p (xs ++ ys)
at_left p [] ys s = absurd s
at_left p (x ∷ xs) ys s = ⊎_elim (λ e. inl e) (λ e. inr (at_left p xs ys e)) s

pub at_right : (p : ℕ) (xs ys : List Keyed) → StartsAt p ys → StartsAt p (xs ++ ys)
at_right p [] ys s = s
at_right p (x ∷ xs) ys s = inr (at_right p xs ys s)

-- no place of the first is one of the second
pub apart : (p : ℕ) (xs ys : List Keyed) → NoneTwice (xs ++ ys) → StartsAt p xs → StartsAt p ys → ⊥
apart p [] ys n s r = s
apart p (x ∷ xs) ys n s r = ⊎_elim (λ e. n.0 (at_right x.row.start xs ys (rw e r))) (λ e. apart p xs ys n.1 e r) s

pub once-first : (xs ys : List Keyed) → NoneTwice (xs ++ ys) → NoneTwice xs
once-first [] ys n = tt
once-first (x ∷ xs) ys n = (λ s. n.0 (at_left x.row.start xs ys s), once-first xs ys n.1)

pub once_last : (xs ys : List Keyed) → NoneTwice (xs ++ ys) → NoneTwice ys
once_last [] ys n = n
once_last (x ∷ xs) ys n = once_last xs ys n.1

-- ---- backwards

module _ (p : ℕ) where
  pub at_back : (xs : List Keyed) → StartsAt p xs → StartsAt p (backwards xs)
  unfolding backwards
  at_back [] s = s
  at_back (x ∷ xs) s = ⊎_elim (λ e. at_right p (backwards xs) (x ∷ []) (inl e)) (λ e. at_left p (backwards xs) (x ∷ []) (at_back xs e)) s

  at-end : (xs : List Keyed) (k : Keyed) → StartsAt p (xs ++ (k ∷ [])) → StartsAt p (k ∷ xs)
  at-end [] k s = s
  at-end (x ∷ xs) k s = ⊎_elim (λ e. inr (inl e)) (λ e. ⊎_elim (λ f. inl f) (λ f. inr (inr f)) (at-end xs k e)) s

  pub back_at : (xs : List Keyed) → StartsAt p (backwards xs) → StartsAt p xs
  unfolding backwards
  back_at [] s = s
  back_at (x ∷ xs) s = ⊎_elim (λ e. inl e) (λ e. inr (back_at xs e)) (at-end (backwards xs) x s)

once-end : (xs : List Keyed) (k : Keyed) → NoneTwice xs → (StartsAt k.row.start xs → ⊥) → NoneTwice (xs ++ (k ∷ []))
once-end [] k n h = (λ s. s, tt)
once-end (x ∷ xs) k n h =
    (λ s. ⊎_elim (λ e. h (inl (sym e))) (λ e. n.0 e) (at-end x.row.start xs k s), once-end xs k n.1 (λ s. h (inr s)))

pub once-back : (xs : List Keyed) → NoneTwice xs → NoneTwice (backwards xs)
unfolding backwards
once-back [] n = tt
once-back (x ∷ xs) n = once-end (backwards xs) x (once-back xs n.1) (λ s. n.0 (back_at x.row.start xs s))
