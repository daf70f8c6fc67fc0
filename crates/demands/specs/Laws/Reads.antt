-- The rows of a region and of a block, taken apart: what the first row of a list of them tells, that rows stand one after another, and that more steps
-- change nothing.
use Rattle.std.specs.Prelude.{ℕ, zero, suc, ◌+◌, ◌<◌, ◌≤◌, ◌≡◌, refl, Bool, List, [], ◌∷◌, ◌++◌, eqb, length}
use Rattle.std.proofs.Common.{ap, ◌∙◌, ⊎_elim, arith, lt-ltb, le-ltb}
use Rattle.std.proofs.Math.Path.{sym}
use Rattle.layout.specs.Res.{Res, ok, refuse}
use Rattle.layout.specs.Key.{Key}
use Rattle.layout.specs.RowRead.{RowRead, read_row, key_of}
use Rattle.layout.specs.Trailer.{Trailer, data_of, Region, region_of, row_in}
use Rattle.layout.specs.Cursor.{Keyed, keyed}
use Rattle.demands.specs.Reads.{region_rows, regions_rows, all_rows, AllOf}
use Rattle.layout.proofs.Laws.Res.{bind-then, ok-inj, ltb-cases}
use Rattle.layout.proofs.Laws.Trailer.{region_of-tells}
use Rattle.layout.proofs.Laws.Tells.{row_in-ends}

-- ---- a region

-- what a region's rows from a place on begin with
pub data RegionIs (left : ℕ) (d : List ℕ) (g : Region) (at : ℕ) (before : Key) : List Keyed → Type 0 where
  over : g.end ≤ at → RegionIs left d g at before []
  more : (r : RowRead) (ks : List Keyed) → at < g.end → row_in d g at (length before) ≡ ok r
      → region_rows left d g r.next (key_of d before r) ≡ ok ks → RegionIs left d g at before (keyed r (key_of d before r) ∷ ks)

pub region-is : (left : ℕ) (d : List ℕ) (g : Region) (at : ℕ) (before : Key) (ks : List Keyed) → region_rows (suc left) d g at before ≡ ok ks → RegionIs left d g at before ks
unfolding region_rows
region-is left d g at before ks e =
    ⊎_elim
    (λ t.
    bind-then (row_in d g at (length before)) _ ks (rw t.0 at e) λ r p q.
    bind-then (region_rows left d g r.next (key_of d before r)) _ ks q λ qs u v.
    let w : keyed r (key_of d before r) ∷ qs ≡ ks = ok-inj v in
    rw (← w) (more r qs t.1 p u))
    (λ t. let z : ◌≡◌ {A = Res (List Keyed)} (ok []) (ok ks) = rw t.0 at e in let w : [] ≡ ks = ok-inj z in rw (← w) (over t.1))
    (ltb-cases at g.end)

-- the same of any number of steps that is enough
pub region-at : (left : ℕ) (d : List ℕ) (g : Region) (at : ℕ) (before : Key) (ks : List Keyed) → region_rows left d g at before ≡ ok ks → g.end ≤ at + left
    → {A : Type 0} → (g.end ≤ at → ks ≡ [] → A)
    → ((r : RowRead) (qs : List Keyed) (m : ℕ) → at < g.end → row_in d g at (length before) ≡ ok r → region_rows m d g r.next (key_of d before r) ≡ ok qs
    → g.end ≤ r.next + m → ks ≡ keyed r (key_of d before r) ∷ qs → A) → A
region-at zero d g at before ks e h {A = A} f k = f (omega arith) (none e)
  where
    none : region_rows 0 d g at before ≡ ok ks → ks ≡ []
    none e = unfold region_rows in sym (ok-inj e)
region-at (suc left) d g at before ks e h {A = A} f k = go ks (region-is left d g at before ks e) f k
  where
    go : (ks : List Keyed) → RegionIs left d g at before ks → (g.end ≤ at → ks ≡ [] → A)
        → ((r : RowRead) (qs : List Keyed) (m : ℕ) → at < g.end → row_in d g at (length before) ≡ ok r → region_rows m d g r.next (key_of d before r) ≡ ok qs
        → g.end ≤ r.next + m → ks ≡ keyed r (key_of d before r) ∷ qs → A) → A
    go ks (over w) f k = f w refl
    go ks (more r qs w p u) f k = k r qs left w p u (omega (arith, (row_in-ends d g at (length before) r p).least)) refl

-- the first of some rows
pub region-first : (left : ℕ) (d : List ℕ) (g : Region) (at : ℕ) (before : Key) (k : Keyed) (ks : List Keyed) → region_rows left d g at before ≡ ok (k ∷ ks) → g.end ≤ at + left
    → {A : Type 0} → ((r : RowRead) (m : ℕ) → row_in d g at (length before) ≡ ok r → keyed r (key_of d before r) ≡ k → region_rows m d g r.next (key_of d before r) ≡ ok ks
    → g.end ≤ r.next + m → A) → A
region-first left d g at before k ks e h f =
    region-at left d g at before (k ∷ ks) e h
    (λ over is. absurd (let z : ◌≡◌ {A = ℕ} 0 1 = cc in omega arith))
    (λ r qs m lt u more enough is. let first : keyed r (key_of d before r) ≡ k = cc in let tail : qs ≡ ks = cc in f r m u first (more ∙ ap ok tail) enough)

-- the rows of a region that is not over
pub region-cons : (left : ℕ) (d : List ℕ) (g : Region) (at : ℕ) (before : Key) (r : RowRead) (ks : List Keyed) → at < g.end
    → row_in d g at (length before) ≡ ok r → region_rows left d g r.next (key_of d before r) ≡ ok ks
    → region_rows (suc left) d g at before ≡ ok (keyed r (key_of d before r) ∷ ks)
unfolding region_rows
region-cons left d g at before r ks h p u = rw (lt-ltb at g.end h, p, u)

pub region-over : (left : ℕ) (d : List ℕ) (g : Region) (at : ℕ) (before : Key) → g.end ≤ at → region_rows left d g at before ≡ ok []
unfolding region_rows
region-over zero d g at before h = refl
region-over (suc left) d g at before h = rw (le-ltb at g.end h)

-- more steps change nothing
pub region-more : (m n : ℕ) (d : List ℕ) (g : Region) (at : ℕ) (before : Key) → g.end ≤ at + m → g.end ≤ at + n → region_rows m d g at before ≡ region_rows n d g at before
region-more zero n d g at before h k = region-over zero d g at before (omega arith) ∙ sym (region-over n d g at before (omega arith))
region-more (suc m) zero d g at before h k = region-over (suc m) d g at before (omega arith) ∙ sym (region-over zero d g at before (omega arith))
region-more (suc m) (suc n) d g at before h k = go (row_in d g at (length before)) refl (region-more m n d g)
  where
    go : (x : Res RowRead) → row_in d g at (length before) ≡ x
        → ((at : ℕ) (before : Key) → g.end ≤ at + m → g.end ≤ at + n → region_rows m d g at before ≡ region_rows n d g at before)
        → region_rows (suc m) d g at before ≡ region_rows (suc n) d g at before
    go (ok r) e ih = same (ih r.next (key_of d before r) (omega (arith, next)) (omega (arith, next)))
      where
        next : at + 12 ≤ r.next
        next = (row_in-ends d g at (length before) r e).least

        same : region_rows m d g r.next (key_of d before r) ≡ region_rows n d g r.next (key_of d before r) → region_rows (suc m) d g at before ≡ region_rows (suc n) d g at before
        same q = unfold region_rows in rw (e, q)
    go (refuse n) e ih = unfold region_rows in rw e

-- ---- rows stand one after another

-- where the last of some rows ends
unfoldable pub ends_at : ℕ → List Keyed → ℕ
ends_at at [] = at
ends_at at (k ∷ ks) = ends_at k.row.next ks

pub ends_at-snoc : (at : ℕ) (ks : List Keyed) (k : Keyed) → ends_at at (ks ++ (k ∷ [])) ≡ k.row.next
unfolding ends_at
ends_at-snoc at [] k = refl
ends_at-snoc at (x ∷ xs) k = ends_at-snoc x.row.next xs k

-- ---- the regions of a block

pub data RegionsAre (left : ℕ) (b : List ℕ) (t : Trailer) (region : ℕ) : List (List Keyed) → Type 0 where
  next : (g : Region) (rows : List Keyed) (rest : List (List Keyed)) → region_of b t region ≡ ok g → region_rows t.size (data_of b t) g g.start [] ≡ ok rows
      → regions_rows left b t (suc region) ≡ ok rest → RegionsAre left b t region (rows ∷ rest)

pub regions-are : (left : ℕ) (b : List ℕ) (t : Trailer) (region : ℕ) (rss : List (List Keyed)) → regions_rows (suc left) b t region ≡ ok rss → RegionsAre left b t region rss
unfolding regions_rows
regions-are left b t region rss e =
    bind-then (region_of b t region) _ rss e λ g p q.
    bind-then (region_rows t.size (data_of b t) g g.start []) _ rss q λ rows u v.
    bind-then (regions_rows left b t (suc region)) _ rss v λ rest w x.
    let y : rows ∷ rest ≡ rss = ok-inj x in
    rw (← y) (next g rows rest p u w)

pub regions-none : (b : List ℕ) (t : Trailer) (region : ℕ) (rss : List (List Keyed)) → regions_rows 0 b t region ≡ ok rss → rss ≡ []
unfolding regions_rows
regions-none b t region rss e = sym (ok-inj e)

pub regions-cons : (left : ℕ) (b : List ℕ) (t : Trailer) (region : ℕ) (g : Region) (rows : List Keyed) (rest : List (List Keyed)) → region_of b t region ≡ ok g
    → region_rows t.size (data_of b t) g g.start [] ≡ ok rows → regions_rows left b t (suc region) ≡ ok rest → regions_rows (suc left) b t region ≡ ok (rows ∷ rest)
unfolding regions_rows
regions-cons left b t region g rows rest p u w = rw (p, u, w)

-- ---- all rows

pub all_rows-none : all_rows [] ≡ []
unfolding all_rows
all_rows-none = refl

pub all_rows-next : (rows : List Keyed) (rest : List (List Keyed)) → all_rows (rows ∷ rest) ≡ rows ++ all_rows rest
unfolding all_rows
all_rows-next rows rest = refl

-- ---- what holds of each row that is read holds of all rows

pub all_append : (P : Keyed → Type 0) (xs ys : List Keyed) → AllOf P xs → AllOf P ys → AllOf P (xs ++ ys)
all_append P [] ys a b = b
all_append P (x ∷ xs) ys a b = (a.0, all_append P xs ys a.1 b)

module _ (P : Keyed → Type 0)
    (each : (d : List ℕ) (at end : ℕ) (before : Key) (restart : Bool) (r : RowRead) → read_row d at end (length before) restart ≡ ok r → P (keyed r (key_of d before r))) where
  region-all : (ks : List Keyed) (left : ℕ) (d : List ℕ) (g : Region) (at : ℕ) (before : Key) → region_rows left d g at before ≡ ok ks → g.end ≤ at + left → AllOf P ks
  region-all [] left d g at before p h = tt
  region-all (k ∷ ks) left d g at before p h =
      region-at left d g at before (k ∷ ks) p h
      (λ over is. absurd (let z : ◌≡◌ {A = ℕ} 0 1 = cc in omega arith))
      (λ r qs m lt u rest enough is.
      let first : keyed r (key_of d before r) ≡ k = cc in
      let tail : qs ≡ ks = cc in
      (rw (← first) (each d at g.end before (eqb at g.start) r u), region-all ks m d g r.next (key_of d before r) (rest ∙ ap ok tail) enough))

  pub rows_all : (left : ℕ) (b : List ℕ) (t : Trailer) (region : ℕ) (rss : List (List Keyed)) → regions_rows left b t region ≡ ok rss → AllOf P (all_rows rss)
  rows_all zero b t region rss p = rw (regions-none b t region rss p, all_rows-none) tt
  rows_all (suc left) b t region rss p = go rss (regions-are left b t region rss p) (rows_all left b t (suc region))
    where
      go : (rss : List (List Keyed)) → RegionsAre left b t region rss → ((rss : List (List Keyed)) → regions_rows left b t (suc region) ≡ ok rss → AllOf P (all_rows rss)) → AllOf P (all_rows rss)
      go rss (next g rows rest u q w) ih =
          rw (all_rows-next rows rest)
          (all_append P rows (all_rows rest) (region-all rows t.size (data_of b t) g g.start [] q (omega (arith, (region_of-tells b t region g u).inside))) (ih rest w))
