-- A descending seek on a block whose rows are read, and never fall: it stands after the last row at or below the target, or says "done" when there is none.
-- It starts in a region whose restart is at or below the target, while the restart after it is above; so that region holds the row.
use Prim.Native.Nat.{ℕ, zero, suc, ◌+◌, ◌-◌, ◌<◌, ◌≤◌, zero-le}
use Rattle.std.specs.Prelude.{◌≡◌, Bool, true, false, cond, ◌⊎◌, length, take, drop}
use Rattle.std.proofs.Math.Path.{refl, ap}
use Rattle.std.proofs.Common.{sym, ◌∙◌, ⊎_elim, inl, inr, arith, add-one, take-append-drop, take-add, take_at, drop_at, lt-ltb, le-ltb}
use Rattle.std.proofs.Math.Bool.{not}
use mathlib.Core.List.{List, [], ◌∷◌, ◌++◌}
use Rattle.std.proofs.lemmas.List.{take-append-le}
use Rattle.std.proofs.Math.Seq.{take-nil}
use Rattle.layout.specs.Res.{Res, ok}
use Rattle.layout.specs.Key.{Key, below, same, leading, not_above}
use Rattle.layout.specs.RowRead.{RowRead, key_of}
use Rattle.layout.specs.Trailer.{Trailer, trailer_of, data_of, Region, region_of, row_in}
use Rattle.layout.specs.Cursor.{descending, Cursor, cursor_at, Keyed, keyed}
use Rattle.layout.specs.Seek.{Found, restart_key, restart_below, last_equal, start_down, last_at_or_below, done_down, walk_down, sought_is, seek}
use Rattle.demands.specs.Reads.{region_rows, regions_rows, Reads, all_rows, keys_of}
use Rattle.demands.specs.AnyOrder.{with_some, through}
use Rattle.layout.proofs.Laws.Res.{bool_cases, ltb-cases, ok-inj, clash}
use Rattle.layout.specs.Laws.Key.{AtMost}
use Rattle.layout.proofs.Laws.Key.{at-most-refl, below_false, le_below, below-le, same-is}
use Rattle.layout.specs.Laws.Trailer.{RegionTells}
use Rattle.layout.proofs.Laws.Trailer.{region_of-tells, trailer_of-tells}
use Rattle.layout.proofs.Laws.Tells.{row_in-ends}
use Rattle.layout.specs.Laws.Search.{Closed}
use Rattle.layout.proofs.Laws.Seek.{below-is, start-past, start-earlier, start-run, down-from, seek_is, falling-start, falling-found, falling-done}
use Rattle.demands.specs.Laws.Reads.{region-at, region-over, ends_at, RegionsAre, next as next-region, regions-are, regions-none, all_rows-none, all_rows-next}
use Rattle.demands.specs.Laws.Descend.{Front, none, then, After}
use Rattle.demands.specs.Laws.Split.{Split, split_at, searched}
use Rattle.demands.specs.Laws.Sorted.{NeverFall, AllPass, leading-all, leading-most, leading_step, leading-stop, leading-within, leading-whole, rises, none_above, above_on, falls-on, falls-first}

-- ---- the read of a whole region

last-over : (fuel : ℕ) (d : List ℕ) (g : Region) (target : Key) (at : ℕ) (before : Key) (best : ℕ) → g.end ≤ at → last_at_or_below fuel d g target at before best ≡ ok best
unfolding last_at_or_below
last-over zero d g target at before best h = refl
last-over (suc fuel) d g target at before best h = rw (le-ltb at g.end h)

last_on : (fuel : ℕ) (d : List ℕ) (g : Region) (target : Key) (at : ℕ) (before : Key) (best : ℕ) (r : RowRead) → at < g.end → row_in d g at (length before) ≡ ok r
    → last_at_or_below (suc fuel) d g target at before best ≡ last_at_or_below fuel d g target r.next (key_of d before r) (cond (below target (key_of d before r)) best r.next)
unfolding last_at_or_below
last_on fuel d g target at before best r h p = rw (lt-ltb at g.end h, p)

-- how many rows there are up to the last at or below the target
through-above : (target k : Key) (ks : List Key) → below target k ≡ true → through target (k ∷ ks) ≡ with_some (through target ks)
unfolding through
through-above target k ks e = rw e

pub through-step : (target k : Key) (ks : List Key) → below target k ≡ false → through target (k ∷ ks) ≡ suc (through target ks)
unfolding through
through-step target k ks e = rw e

pub through-most : (target : Key) (ks : List Keyed) → through target (keys_of ks) ≤ length ks
through-most target [] = unfold through in zero-le
through-most target (k ∷ ks) =
    ⊎_elim
    (λ e. rw (through-above target k.key (keys_of ks) e) (go (through target (keys_of ks)) (through-most target ks)))
    (λ e. rw (through-step target k.key (keys_of ks) e) (omega (arith, through-most target ks)))
    (bool_cases (below target k.key))
  where
    go : (n : ℕ) → n ≤ length ks → with_some n ≤ suc (length ks)
    go zero h = zero-le
    go (suc n) h = omega arith

-- of keys that never fall these rows come first
through-leading : (target a : Key) (ks : List Keyed) → NeverFall a ks → through target (keys_of ks) ≡ leading (not_above target) (keys_of ks)
through-leading target a [] o = unfold through leading in refl
through-leading target a (k ∷ ks) o =
    ⊎_elim
    (λ e.
    let z : through target (keys_of ks) ≡ 0 = through-leading target k.key ks o.1 ∙ above_on target k.key ks o.1 e in
    through-above target k.key (keys_of ks) e ∙ rw z (sym (leading-stop (not_above target) k ks (ap not e))))
    (λ e. through-step target k.key (keys_of ks) e ∙ ap suc (through-leading target k.key ks o.1) ∙ sym (leading_step (not_above target) k ks (ap not e)))
    (bool_cases (below target k.key))

ends-nothing : (best n : ℕ) → best ≡ ends_at best (take n [])
ends-nothing best n = rw (take-nil {A = Keyed} n) (unfold ends_at in refl)

-- where they end: one above the target counts only where such a row follows
ends-skip : (best : ℕ) (k : Keyed) (ks : List Keyed) (n : ℕ) → n ≤ length ks → ends_at best (take n ks) ≡ ends_at best (take (with_some n) (k ∷ ks))
unfolding ends_at
ends-skip best k ks zero h = refl
ends-skip best k [] (suc n) h = absurd (omega arith)
ends-skip best k (x ∷ xs) (suc n) h = refl

-- where the last row at or below the target ends
pub last-ends : (fuel : ℕ) (d : List ℕ) (g : Region) (target : Key) (at : ℕ) (before : Key) (best : ℕ) (ks : List Keyed) (left : ℕ) → g.end ≤ at + fuel → g.end ≤ at + left
    → region_rows left d g at before ≡ ok ks → last_at_or_below fuel d g target at before best ≡ ok (ends_at best (take (through target (keys_of ks)) ks))
last-ends zero d g target at before best ks left h n p =
    let none : ks ≡ [] = ok-inj (sym p ∙ region-over left d g at before (omega arith)) in
    last-over zero d g target at before best (omega arith) ∙ rw none (ap ok (ends-nothing best (through target [])))
last-ends (suc fuel) d g target at before best ks left h n p =
    region-at left d g at before ks p n
    (λ over is. last-over (suc fuel) d g target at before best over ∙ rw is (ap ok (ends-nothing best (through target []))))
    (λ r qs m lt u more enough is.
    let w = row_in-ends d g at (length before) r u in
    last_on fuel d g target at before best r lt u
    ∙ rw is (go r qs (below target (key_of d before r)) refl (λ best. last-ends fuel d g target r.next (key_of d before r) best qs m (omega (arith, w.least)) enough more)))
  where
    go : (r : RowRead) (qs : List Keyed) (t : Bool) → below target (key_of d before r) ≡ t
        → ((best : ℕ) → last_at_or_below fuel d g target r.next (key_of d before r) best ≡ ok (ends_at best (take (through target (keys_of qs)) qs)))
        → last_at_or_below fuel d g target r.next (key_of d before r) (cond (below target (key_of d before r)) best r.next)
        ≡ ok (ends_at best (take (through target (keys_of (keyed r (key_of d before r) ∷ qs))) (keyed r (key_of d before r) ∷ qs)))
    go r qs true e ih =
        rw (e, through-above target (key_of d before r) (keys_of qs) e)
        (ih best ∙ ap ok (ends-skip best (keyed r (key_of d before r)) qs (through target (keys_of qs)) (through-most target qs)))
    go r qs false e ih =
        rw (e, through-step target (key_of d before r) (keys_of qs) e) (ih r.next ∙ (unfold ends_at in refl))

-- ---- the landing

pub data LandsDown (b : List ℕ) (t : Trailer) (target : Key) (rows : List Keyed) : Res Cursor → Type 0 where
  lands : (c : Cursor) → 0 < leading (not_above target) (keys_of rows) → After b t c (take (leading (not_above target) (keys_of rows)) rows) → LandsDown b t target rows (ok c)
  passes : leading (not_above target) (keys_of rows) ≡ 0 → LandsDown b t target rows (ok done_down)

-- a cursor that stands after some rows of a region, and all of the regions before
pub stands_after : (b : List ℕ) (t : Trailer) (region : ℕ) (g : Region) (fs : List (List Keyed)) (ks : List Keyed) (j : ℕ) → trailer_of b ≡ ok t → region < t.count → region_of b t region ≡ ok g
    → Front b t region fs → region_rows t.size (data_of b t) g g.start [] ≡ ok ks → After b t (cursor_at b t descending region (ends_at g.start (take j ks)) [] false) (all_rows fs ++ take j ks)
stands_after b t region g fs ks j e h u front p =
    record {
      g = g;
      fs = fs;
      ps = take j ks;
      qs = drop j ks;
      goes_down = refl;
      unmarked = refl;
      trailer-good = e;
      inside = h;
      fits = zero-le;
      used = u;
      front = front;
      rows-here = p ∙ ap ok (sym (take-append-drop j ks));
      stands = refl;
      numbered = refl;
      are = refl;
    }

-- what the region that the seek starts in must be: its restart at or below the target and what follows the region above it, or the first of all above it
pub record Starts (b : List ℕ) (t : Trailer) (target : Key) (rows : List Keyed) (region : ℕ) : Type 0 where
  pub inside : region < t.count
  pub split : Split b t rows region
  pub fit : (AtMost split.k.key target × (leading (not_above target) (keys_of (all_rows split.rest)) ≡ 0)) ⊎ ((region ≡ 0) × (below target split.k.key ≡ true))

-- rows end later than the place that they are read from
pub ends-later : (left : ℕ) (d : List ℕ) (g : Region) (at : ℕ) (before : Key) (ks : List Keyed) (n : ℕ) → region_rows left d g at before ≡ ok ks → g.end ≤ at + left → 0 < length ks
    → at < ends_at at (take (suc n) ks)
ends-later left d g at before [] n p h s = absurd (omega arith)
ends-later left d g at before (k ∷ ks) n p h s =
    region-at left d g at before (k ∷ ks) p h
    (λ over is. absurd (let z : ◌≡◌ {A = ℕ} 0 1 = cc in omega arith))
    (λ r qs m lt u more enough is.
    let w = row_in-ends d g at (length before) r u in
    let first : keyed r (key_of d before r) ≡ k = cc in
    let tail : qs ≡ ks = cc in
    let same : r.next ≡ k.row.next = ap (λ (x : Keyed). x.row.next) first in
    let more' : region_rows m d g r.next (key_of d before r) ≡ ok ks = more ∙ ap ok tail in
    go k ks n (omega (arith, w.least, same)) (λ i l. rw same at (ends-later m d g r.next (key_of d before r) ks i more' enough l)))
  where
    go : (k : Keyed) (ks : List Keyed) (n : ℕ) → at < k.row.next → ((i : ℕ) → 0 < length ks → k.row.next < ends_at k.row.next (take (suc i) ks)) → at < ends_at at (take (suc n) (k ∷ ks))
    go k ks zero here ih = unfold ends_at in here
    go k [] (suc n) here ih = unfold ends_at in here
    go k (x ∷ xs) (suc n) here ih = after (ih n (omega arith))
      where
        after : k.row.next < ends_at k.row.next (take (suc n) (x ∷ xs)) → at < ends_at at (take (suc (suc n)) (k ∷ (x ∷ xs)))
        after l = unfold ends_at in omega (arith, l)

-- ---- from the region that the seek starts in

-- a list cut behind a first part
take_part : (fs ks rs : List Keyed) (j : ℕ) → j ≤ length ks → take (length fs + j) (fs ++ (ks ++ rs)) ≡ fs ++ take j ks
take_part fs ks rs j h =
    take-add (length fs) j (fs ++ (ks ++ rs))
    ∙ rw (take_at fs (ks ++ rs) (length fs) refl, drop_at fs (ks ++ rs) (length fs) refl, take-append-le j ks rs h)

-- how many rows are not above: those before the region, and those of it that are not
count-through : (target : Key) (fs ks rs : List Keyed) → AllPass (not_above target) fs → leading (not_above target) (keys_of rs) ≡ 0
    → leading (not_above target) (keys_of (fs ++ (ks ++ rs))) ≡ length fs + leading (not_above target) (keys_of ks)
count-through target fs ks rs a z =
    leading-all (not_above target) fs (ks ++ rs) a
    ∙ ap (λ (n : ℕ). length fs + n)
    (⊎_elim
    (λ c. leading-within (not_above target) ks rs c.1)
    (λ c.
    let whole : leading (not_above target) (keys_of ks) ≡ length ks = omega (arith, c.1, leading-most (not_above target) ks) in
    leading-all (not_above target) ks rs (leading-whole (not_above target) ks whole) ∙ omega (arith, z, whole))
    (ltb-cases (leading (not_above target) (keys_of ks)) (length ks)))

front-none : (b : List ℕ) (t : Trailer) (n : ℕ) (fs : List (List Keyed)) → n ≡ 0 → Front b t n fs → all_rows fs ≡ []
front-none b t n fs z none = all_rows-none
front-none b t n fs z (then m gs g ks f u p) = absurd (omega arith)

pub starts-lands : (b : List ℕ) (t : Trailer) (target : Key) (rows : List Keyed) (region : ℕ) → trailer_of b ≡ ok t → NeverFall [] rows → Starts b t target rows region
    → LandsDown b t target rows (walk_down (suc region) b t target region)
starts-lands b t target rows region e o st = ⊎_elim (λ f. here f.0 f.1) above st.fit
  where
    s : Split b t rows region
    s = st.split

    K : List Keyed
    K = s.k ∷ s.ks

    tells : RegionTells b t region s.g
    tells = region_of-tells b t region s.g s.used

    o₁ : NeverFall [] (all_rows s.fs ++ (K ++ all_rows s.rest))
    o₁ = rw s.are at o

    j : ℕ
    j = leading (not_above target) (keys_of K)

    best : last_at_or_below t.size (data_of b t) s.g target s.g.start [] s.g.start ≡ ok (ends_at s.g.start (take j K))
    best =
        let q = falls-on [] (all_rows s.fs) (K ++ all_rows s.rest) o₁ in
        last-ends t.size (data_of b t) s.g target s.g.start [] s.g.start K t.size (omega (arith, tells.inside)) (omega (arith, tells.inside)) s.rows-here
        ∙ rw (through-leading target q.0 K (falls-first q.0 K (all_rows s.rest) q.1))

    -- the restart is at or below: the region holds the row
    here : AtMost s.k.key target → leading (not_above target) (keys_of (all_rows s.rest)) ≡ 0 → LandsDown b t target rows (walk_down (suc region) b t target region)
    here l next-above =
        let passes-k : not_above target s.k.key ≡ true = ap not (le_below target s.k.key l) in
        let j-is : j ≡ suc (leading (not_above target) (keys_of s.ks)) = leading_step (not_above target) s.k s.ks passes-k in
        let before : AllPass (not_above target) (all_rows s.fs) = none_above target [] (all_rows s.fs) s.k (s.ks ++ all_rows s.rest) o₁ l in
        let n : leading (not_above target) (keys_of rows) ≡ length (all_rows s.fs) + j =
        ap (λ (x : List Keyed). leading (not_above target) (keys_of x)) s.are ∙ (count-through target (all_rows s.fs) K (all_rows s.rest) before next-above) in
        let later : s.g.start < ends_at s.g.start (take j K) =
        rw j-is (ends-later t.size (data_of b t) s.g s.g.start [] K (leading (not_above target) (keys_of s.ks)) s.rows-here (omega (arith, tells.inside)) (omega arith)) in
        let most : j ≤ length K = leading-most (not_above target) K in
        let c : Cursor = cursor_at b t descending region (ends_at s.g.start (take j K)) [] false in
        let left : take (leading (not_above target) (keys_of rows)) rows ≡ all_rows s.fs ++ take j K =
        ap (λ (m : ℕ). take m rows) n ∙ ap (take (length (all_rows s.fs) + j)) s.are ∙ take_part (all_rows s.fs) K (all_rows s.rest) j most in
        rw (← falling-found b t target region region (falling-start b t target region) s.g s.used (ends_at s.g.start (take j K)) best later)
        (lands c (omega arith) (rw left (stands_after b t region s.g s.fs K j e st.inside s.used s.front s.rows-here)))

    -- the first row of all is above: none is left
    above : (region ≡ 0) × (below target s.k.key ≡ true) → LandsDown b t target rows (walk_down (suc region) b t target region)
    above z =
        let j-is : j ≡ 0 = leading-stop (not_above target) s.k s.ks (ap not z.1) in
        let none-best : ends_at s.g.start (take j K) ≡ s.g.start = rw j-is (unfold ends_at in refl) in
        let first : all_rows s.fs ≡ [] = front-none b t region s.fs z.0 s.front in
        let n : leading (not_above target) (keys_of rows) ≡ 0 =
        ap (λ (x : List Keyed). leading (not_above target) (keys_of x)) s.are ∙ rw first (leading-stop (not_above target) s.k (s.ks ++ all_rows s.rest) (ap not z.1)) in
        rw (← falling-done b t target region region (falling-start b t target region) s.g s.used (ends_at s.g.start (take j K)) best (omega (arith, none-best)) z.0) (passes n)

-- ---- where the seek starts

pub equal-on : (left : ℕ) (b : List ℕ) (t : Trailer) (target : Key) (i : ℕ) (k : Key) → i + 1 < t.count → restart_key b t (i + 1) ≡ ok k → same k target ≡ true
    → last_equal (suc left) b t target i ≡ last_equal left b t target (i + 1)
unfolding last_equal
equal-on left b t target i k h e q = rw (lt-ltb (i + 1) t.count h, e, q)

pub equal-ends : (left : ℕ) (b : List ℕ) (t : Trailer) (target : Key) (i : ℕ) (k : Key) → i + 1 < t.count → restart_key b t (i + 1) ≡ ok k → same k target ≡ false → last_equal (suc left) b t target i ≡ ok i
unfolding last_equal
equal-ends left b t target i k h e q = rw (lt-ltb (i + 1) t.count h, e, q)

pub equal_over : (left : ℕ) (b : List ℕ) (t : Trailer) (target : Key) (i : ℕ) → t.count ≤ i + 1 → last_equal left b t target i ≡ ok i
unfolding last_equal
equal_over zero b t target i h = refl
equal_over (suc left) b t target i h = rw (le-ltb (i + 1) t.count h)

-- a key at or above the target that is another one is above it
differs_above : (target k : Key) → AtMost target k → same k target ≡ false → below target k ≡ true
differs_above target k l u = go (below target k) refl
  where
    under : below k target ≡ false
    under = le_below k target l

    go : (x : Bool) → below target k ≡ x → below target k ≡ true
    go true e = e
    go false e = absurd (clash refl (rw (under, e) at (equal-here u)))
      where
        equal-here : same k target ≡ false → cond (below k target) false (not (below target k)) ≡ false
        equal-here u = u

module _ (b : List ℕ) (t : Trailer) (rss : List (List Keyed)) (target : Key) (q : Reads b t rss) (o : NeverFall [] (all_rows rss)) where
  -- the last region has none after it
  none_after : (i : ℕ) → t.count ≤ i + 1 → (s : Split b t (all_rows rss) i) → leading (not_above target) (keys_of (all_rows s.rest)) ≡ 0
  none_after i h s = go (t.count - suc i) (omega arith) s.rows_then
    where
      go : (n : ℕ) → n ≡ 0 → regions_rows n b t (suc i) ≡ ok s.rest → leading (not_above target) (keys_of (all_rows s.rest)) ≡ 0
      go zero z p = rw (regions-none b t (suc i) s.rest p, all_rows-none) (unfold leading in refl)
      go (suc n) z p = absurd (omega arith)

  -- the rows after a region begin with the next restart's
  next-begins : (i : ℕ) (s : Split b t (all_rows rss) i) (h : i + 1 < t.count) → (more : List Keyed) × (all_rows s.rest ≡ (split_at b t rss q (i + 1) h).k ∷ more)
  next-begins i s h = go (t.count - suc i) refl s.rows_then
    where
      n : Split b t (all_rows rss) (i + 1)
      n = split_at b t rss q (i + 1) h

      go : (m : ℕ) → t.count - suc i ≡ m → regions_rows m b t (suc i) ≡ ok s.rest → (more : List Keyed) × (all_rows s.rest ≡ n.k ∷ more)
      go zero z p = absurd (omega arith)
      go (suc m) z p = made s.rest (regions-are m b t (suc i) s.rest p)
        where
          made : (rest : List (List Keyed)) → RegionsAre m b t (suc i) rest → (more : List Keyed) × (all_rows rest ≡ n.k ∷ more)
          made rest (next-region g rows more u p w) =
              let same-g : g ≡ n.g = ok-inj (sym u ∙ ap (region_of b t) (sym (add-one i)) ∙ n.used) in
              let is : rows ≡ n.k ∷ n.ks = ok-inj (sym p ∙ ap (λ (x : Region). region_rows t.size (data_of b t) x x.start []) same-g ∙ n.rows-here) in
              (n.ks ++ all_rows more, all_rows-next rows more ∙ ap (λ (x : List Keyed). x ++ all_rows more) is)

  -- one above the target ends the count
  above-next : (i : ℕ) (s : Split b t (all_rows rss) i) (h : i + 1 < t.count) → below target (split_at b t rss q (i + 1) h).k.key ≡ true → leading (not_above target) (keys_of (all_rows s.rest)) ≡ 0
  above-next i s h e =
      let n = next-begins i s h in
      ap (λ (x : List Keyed). leading (not_above target) (keys_of x)) n.1 ∙ leading-stop (not_above target) (split_at b t rss q (i + 1) h).k n.0 (ap not e)

  -- two restarts in order
  restarts-rise : (i : ℕ) (h : i + 1 < t.count) (s : Split b t (all_rows rss) i) → AtMost s.k.key (split_at b t rss q (i + 1) h).k.key
  restarts-rise i h s =
      let n = next-begins i s h in
      let a = falls-on [] (all_rows s.fs) ((s.k ∷ s.ks) ++ all_rows s.rest) (rw s.are at o) in
      let u : NeverFall s.k.key (s.ks ++ all_rows s.rest) = a.1.1 in
      rises s.k.key s.ks (split_at b t rss q (i + 1) h).k n.0 (rw n.1 at u)

  -- the last of the run of restarts equal to the target
  run-starts : (left i : ℕ) → t.count ≤ i + left → (h : i < t.count) → same (split_at b t rss q i h).k.key target ≡ true
      → (region : ℕ) × (last_equal left b t target i ≡ ok region) × Starts b t target (all_rows rss) region
  run-starts zero i n h e = absurd (omega arith)
  run-starts (suc left) i n h e =
      ⊎_elim
      (λ c.
      let next = split_at b t rss q (i + 1) c.1 in
      ⊎_elim
      (λ u.
      let r = run-starts left (i + 1) (omega arith) c.1 u in
      (r.0, equal-on left b t target i next.k.key c.1 next.key-is u ∙ r.1, r.2))
      (λ u. (i, equal-ends left b t target i next.k.key c.1 next.key-is u, starts (above-next i s c.1 (over next.k.key u (restarts-rise i c.1 s)))))
      (bool_cases (same next.k.key target)))
      (λ c. (i, equal_over (suc left) b t target i c.1, starts (none_after i c.1 s)))
      (ltb-cases (i + 1) t.count)
    where
      s : Split b t (all_rows rss) i
      s = split_at b t rss q i h

      is : s.k.key ≡ target
      is = same-is s.k.key target e

      starts : leading (not_above target) (keys_of (all_rows s.rest)) ≡ 0 → Starts b t target (all_rows rss) i
      starts z = record { inside = h; split = s; fit = inl (rw is (at-most-refl target), z) }

      over : (k : Key) → same k target ≡ false → AtMost s.k.key k → below target k ≡ true
      over k u l = differs_above target k (rw is at l) u

  -- a restart that the search found below the target
  below-starts : (p : ℕ) (h : p < t.count) → restart_below b t target p ≡ ok true → leading (not_above target) (keys_of (all_rows (split_at b t rss q p h).rest)) ≡ 0 → Starts b t target (all_rows rss) p
  below-starts p h e z =
      let s = split_at b t rss q p h in
      let under : below s.k.key target ≡ true = ok-inj (sym (below-is b t p target s.k.key s.key-is) ∙ e) in
      record { inside = h; split = s; fit = inl (below-le s.k.key target under, z) }

  -- the restart where the search closed, when it is another than the target
  other-starts : (place : ℕ) (h : place < t.count) → ((i : ℕ) → suc i ≡ place → 0 ≤ i → restart_below b t target i ≡ ok true) → below target (split_at b t rss q place h).k.key ≡ true
      → Starts b t target (all_rows rss) (place - 1)
  other-starts zero h f e = record { inside = h; split = split_at b t rss q 0 h; fit = inr (refl, e) }
  other-starts (suc p) h f e =
      let n : suc p - 1 ≡ p = omega arith in
      let low : p < t.count = omega arith in
      let next : p + 1 < t.count = omega arith in
      let key : (split_at b t rss q (p + 1) next).k.key ≡ (split_at b t rss q (suc p) h).k.key =
      ok-inj (sym (split_at b t rss q (p + 1) next).key-is ∙ ap (restart_key b t) (add-one p) ∙ (split_at b t rss q (suc p) h).key-is) in
      rw n (below-starts p low (f p refl zero-le) (above-next p (split_at b t rss q p low) next (rw key e)))

  past-starts : (place : ℕ) → place ≡ t.count → ((i : ℕ) → suc i ≡ place → 0 ≤ i → restart_below b t target i ≡ ok true) → Starts b t target (all_rows rss) (place - 1)
  past-starts zero z f = absurd (omega (arith, (trailer_of-tells b t q.trailer-good).1))
  past-starts (suc p) z f =
      let n : suc p - 1 ≡ p = omega arith in
      let low : p < t.count = omega arith in
      rw n (below-starts p low (f p refl zero-le) (none_after p (omega arith) (split_at b t rss q p low)))

  pub down-starts : (f : Found) → Closed (restart_below b t target) 0 t.count f → (region : ℕ) × (start_down b t target f.place ≡ ok region) × Starts b t target (all_rows rss) region
  down-starts f c =
      ⊎_elim
      (λ h.
      let s = split_at b t rss q f.place h.1 in
      let over : below s.k.key target ≡ false = ok-inj (sym (below-is b t f.place target s.k.key s.key-is) ∙ c.here h.1) in
      ⊎_elim
      (λ e.
      let r = run-starts t.count f.place (omega arith) h.1 e in
      (r.0, sym (start-run b t target f.place h.1 s.k.key s.key-is e (sym r.1)), r.2))
      (λ e. (
        f.place - 1,
        sym (start-earlier b t target f.place h.1 s.k.key s.key-is e),
        other-starts f.place h.1 c.before (differs_above target s.k.key (below_false s.k.key target over) e),
      ))
      (bool_cases (same s.k.key target)))
      (λ h. (f.place - 1, sym (start-past b t target f.place h.1), past-starts f.place (omega (arith, h.1, c.to)) c.before))
      (ltb-cases f.place t.count)

pub record SeeksDown (b : List ℕ) (t : Trailer) (target : Key) (rows : List Keyed) : Type 0 where
  pub c : Cursor
  pub reads : ℕ
  pub is : seek descending b target ≡ ok (sought_is c reads)
  pub landing : LandsDown b t target rows (ok c)

landed : (b : List ℕ) (t : Trailer) (target : Key) (rows : List Keyed) (x : Res Cursor) → LandsDown b t target rows x → (c : Cursor) × (x ≡ ok c)
landed b t target rows x (lands c h q) = (c, refl)
landed b t target rows x (passes q) = (done_down, refl)

pub seeks-down : (b : List ℕ) (t : Trailer) (rss : List (List Keyed)) (target : Key) → Reads b t rss → NeverFall [] (all_rows rss) → SeeksDown b t target (all_rows rss)
seeks-down b t rss target q o =
    let s = searched b t rss target q in
    let d = down-starts b t rss target q o s.f s.closed in
    let l = starts-lands b t target (all_rows rss) d.0 q.trailer-good o d.2 in
    let c = landed b t target (all_rows rss) (walk_down (suc d.0) b t target d.0) l in
    record {
      c = c.0;
      reads = s.f.reads;
      is = seek_is descending b target t q.trailer-good s.f s.is c.0 (sym (down-from b t target s.f.place d.0 d.1 (sym c.1)));
      landing = rw c.1 at l;
    }
