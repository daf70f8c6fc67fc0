-- A seek on a block whose rows are read, in any order: each restart's key is its region's first, so the search is the search among these; the walks then read region by region. No region
-- before the one where the descending walk starts is asked, since its restart is at or below the target, unless it is the first of all.
use Rattle.std.specs.Prelude.{ℕ, zero, suc, ◌+◌, ◌-◌, ◌<◌, ◌≤◌, ◌≡◌, Bool, true, false, cond, ◌⊎◌, ltb, take, drop, get_or}
use Rattle.std.proofs.Common.{zero-le, sym, ◌∙◌, ⊎_elim, inl, inr, arith, zero-add, get_or-drop}
use Rattle.std.proofs.Math.Path.{refl, ap}
use mathlib.Core.List.{List, [], ◌∷◌}
use Rattle.std.proofs.Math.ListN.{length, length-append}
use Rattle.std.proofs.Math.Seq.{length-take-le}
use Rattle.layout.specs.Res.{Res, ok, refuse, bind}
use Rattle.layout.specs.Key.{Key, below, same}
use Rattle.layout.specs.Trailer.{Trailer, data_of, Region, region_of}
use Rattle.layout.specs.Cursor.{descending, Cursor, cursor_at, Keyed}
use Rattle.layout.specs.Seek.{Found, tick, middle, search_in, search, restart_key, restart_below, search_restarts, last_equal, start_down, walk_up, walk_down, done_down}
use Rattle.demands.specs.Reads.{region_rows, regions_rows, Reads, all_rows, keys_of}
use Rattle.demands.specs.AnyOrder.{the_first_key, region_at, found_among, rows_onward, last_equal_among, start_among, through, left_down}
use Rattle.layout.proofs.Laws.Res.{bool_cases, ltb-cases, ok-inj}
use Rattle.layout.proofs.Laws.Key.{at-most-refl, le_below, below-le, same-is}
use Rattle.layout.proofs.Laws.Trailer.{region_of-tells, trailer_of-tells}
use Rattle.layout.specs.Laws.Search.{Closed}
use Rattle.layout.proofs.Laws.Search.{middle-high}
use Rattle.layout.proofs.Laws.Seek.{below-is, start-past, start-earlier, start-run, falling-start, falling-found, falling-done}
use Rattle.demands.specs.Laws.Reads.{ends_at, RegionsAre, next as next-region, regions-are, regions-none, regions-cons}
use Rattle.demands.specs.Laws.Descend.{Front, none, front-more, After}
use Rattle.demands.specs.Laws.Split.{Split, split_at}
use Rattle.demands.specs.Laws.LandsUp.{LandsUp, walk-lands}
use Rattle.demands.specs.Laws.LandsDown.{through-step, through-most, last-ends, stands_after, ends-later, equal-on, equal-ends, equal_over}

-- ---- the regions of a block, cut at one

cut-regions : (i : ℕ) (b : List ℕ) (t : Trailer) (left region : ℕ) (rss : List (List Keyed)) → regions_rows (i + left) b t region ≡ ok rss
    → (regions_rows i b t region ≡ ok (take i rss)) × (regions_rows left b t (region + i) ≡ ok (drop i rss))
cut-regions zero b t left region rss e =
    let n : region + 0 ≡ region = omega arith in
    (unfold regions_rows in refl, ap (regions_rows left b t) n ∙ ap (λ (m : ℕ). regions_rows m b t region) (sym (zero-add left)) ∙ e)
cut-regions (suc i) b t left region rss e =
    go rss (regions-are (i + left) b t region rss (ap (λ (m : ℕ). regions_rows m b t region) (omega arith) ∙ e)) (cut-regions i b t left (suc region))
  where
    go : (rss : List (List Keyed)) → RegionsAre (i + left) b t region rss
        → ((rss : List (List Keyed)) → regions_rows (i + left) b t (suc region) ≡ ok rss
        → (regions_rows i b t (suc region) ≡ ok (take i rss)) × (regions_rows left b t (suc region + i) ≡ ok (drop i rss)))
        → (regions_rows (suc i) b t region ≡ ok (take (suc i) rss)) × (regions_rows left b t (region + suc i) ≡ ok (drop (suc i) rss))
    go rss (next-region g rows more u p w) ih =
        let q = ih more w in
        let n : region + suc i ≡ suc region + i = omega arith in
        (regions-cons i b t region g rows (take i more) u p q.0, ap (regions_rows left b t) n ∙ q.1)

regions-many : (left : ℕ) (b : List ℕ) (t : Trailer) (region : ℕ) (rss : List (List Keyed)) → regions_rows left b t region ≡ ok rss → length rss ≡ left
regions-many zero b t region rss e = rw (regions-none b t region rss e)
regions-many (suc left) b t region rss e = go rss (regions-are left b t region rss e) (regions-many left b t (suc region))
  where
    go : (rss : List (List Keyed)) → RegionsAre left b t region rss → ((rss : List (List Keyed)) → regions_rows left b t (suc region) ≡ ok rss → length rss ≡ left) → length rss ≡ suc left
    go rss (next-region g rows more u p w) ih = ap suc (ih more w)

-- a search asks no more than its probes below the span's end
search-alike : (fuel : ℕ) (f g : ℕ → Res Bool) (low high : ℕ) → ((i : ℕ) → i < high → f i ≡ g i) → search_in fuel f low high ≡ search_in fuel g low high
unfolding search_in
search-alike zero f g low high e = refl
search-alike (suc fuel) f g low high e =
    ⊎_elim
    (λ t. rw (t.0, e (middle low high) (middle-high low high t.1)) (go (g (middle low high)) t.1 (search-alike fuel f g)))
    (λ t. rw t.0)
    (ltb-cases low high)
  where
    go : (p : Res Bool) → low < high → ((low high : ℕ) → ((i : ℕ) → i < high → f i ≡ g i) → search_in fuel f low high ≡ search_in fuel g low high)
        → bind p (λ b. bind (search_in fuel f (cond b (suc (middle low high)) low) (cond b high (middle low high))) tick)
        ≡ bind p (λ b. bind (search_in fuel g (cond b (suc (middle low high)) low) (cond b high (middle low high))) tick)
    go (ok true) w ih = rw (ih (suc (middle low high)) high e)
    go (ok false) w ih = rw (ih low (middle low high) (λ i h. e i (omega (arith, middle-high low high w))))
    go (refuse n) w ih = refl

module _ (b : List ℕ) (t : Trailer) (rss : List (List Keyed)) (q : Reads b t rss) where
  pub many : length rss ≡ t.count
  many = regions-many t.count b t 0 rss q.rows-read

  cut : (i : ℕ) → i ≤ t.count → (regions_rows i b t 0 ≡ ok (take i rss)) × (regions_rows (t.count - i) b t i ≡ ok (drop i rss))
  cut i h =
      let n : i + (t.count - i) ≡ t.count = omega arith in
      let c = cut-regions i b t (t.count - i) 0 rss (ap (λ (m : ℕ). regions_rows m b t 0) n ∙ q.rows-read) in
      (c.0, ap (regions_rows (t.count - i) b t) (sym (zero-add i)) ∙ c.1)

  -- region i among them: its rows, which begin with its restart's
  pub record Cut (i : ℕ) : Type 0 where
    pub g : Region
    pub used : region_of b t i ≡ ok g
    pub front : Front b t i (take i rss)
    pub rows-here : region_rows t.size (data_of b t) g g.start [] ≡ ok (region_at rss i)
    pub k : Keyed
    pub ks : List Keyed
    pub are : region_at rss i ≡ k ∷ ks
    pub key-is : restart_key b t i ≡ ok (the_first_key (region_at rss i))

  pub cut_at : (i : ℕ) → i < t.count → Cut i
  cut_at i h = go (t.count - i) refl (cut i (omega arith)).1
    where
      s : Split b t (all_rows rss) i
      s = split_at b t rss q i h

      front : Front b t i (take i rss)
      front = rw (zero-add i) at (front-more i b t 0 [] (take i rss) none (cut i (omega arith)).0)

      go : (m : ℕ) → t.count - i ≡ m → regions_rows m b t i ≡ ok (drop i rss) → Cut i
      go zero z p = absurd (omega arith)
      go (suc m) z p = made (drop i rss) refl (regions-are m b t i (drop i rss) p)
        where
          made : (rest : List (List Keyed)) → drop i rss ≡ rest → RegionsAre m b t i rest → Cut i
          made rest e (next-region g rows more u p w) =
              let same-g : g ≡ s.g = ok-inj (sym u ∙ s.used) in
              let is : rows ≡ s.k ∷ s.ks = ok-inj (sym p ∙ ap (λ (x : Region). region_rows t.size (data_of b t) x x.start []) same-g ∙ s.rows-here) in
              let n : i + 0 ≡ i = omega arith in
              let here : region_at rss i ≡ rows = ap (region_at rss) (sym n) ∙ sym (get_or-drop i rss 0 []) ∙ ap (λ (x : List (List Keyed)). get_or x 0 []) e in
              record {
                g = g;
                used = u;
                front = front;
                rows-here = p ∙ ap ok (sym here);
                k = s.k;
                ks = s.ks;
                are = here ∙ is;
                key-is = s.key-is ∙ ap (λ (x : List Keyed). ok (the_first_key x)) (sym (here ∙ is));
              }

  module _ (target : Key) where
    probe : (i : ℕ) → i < t.count → restart_below b t target i ≡ ok (below (the_first_key (region_at rss i)) target)
    probe i h = below-is b t i target (the_first_key (region_at rss i)) (cut_at i h).key-is

    pub search-among : search_restarts b t target ≡ found_among target rss
    unfolding search_restarts search
    search-among = rw many (search-alike (t.count - 0) (restart_below b t target) (λ i. ok (below (the_first_key (region_at rss i)) target)) 0 t.count probe)

    -- ---- ascending

    pub lands-among : (place : ℕ) → place ≤ t.count → LandsUp b t target (rows_onward (place - 1) rss) (walk_up (t.count - (place - 1)) b t target (place - 1))
    lands-among place h =
        walk-lands (t.count - (place - 1)) b t target (place - 1) (drop (place - 1) rss) q.trailer-good (omega arith) (cut (place - 1) (omega arith)).1

    -- ---- descending

    -- where the walk starts: at the first region, or at one whose restart is at or below the target
    pub record StartsAt (region : ℕ) : Type 0 where
      pub inside : region < t.count
      pub fit : (region ≡ 0) ⊎ (below target (the_first_key (region_at rss region)) ≡ false)

    -- a restart that is below the target, or equals it, is not above it
    not-above-below : (i : ℕ) (h : i < t.count) → restart_below b t target i ≡ ok true → StartsAt i
    not-above-below i h e =
        record { inside = h; fit = inr (le_below target (the_first_key (region_at rss i)) (below-le (the_first_key (region_at rss i)) target (ok-inj (sym (probe i h) ∙ e)))) }

    not-above-same : (i : ℕ) (h : i < t.count) → same (the_first_key (region_at rss i)) target ≡ true → StartsAt i
    not-above-same i h e =
        let is : the_first_key (region_at rss i) ≡ target = same-is (the_first_key (region_at rss i)) target e in
        record { inside = h; fit = inr (rw is (le_below target target (at-most-refl target))) }

    run-among : (left i : ℕ) → i < t.count → same (the_first_key (region_at rss i)) target ≡ true
        → (last_equal left b t target i ≡ ok (last_equal_among left target rss i)) × StartsAt (last_equal_among left target rss i)
    run-among zero i h e = (unfold last_equal last_equal_among in refl, unfold last_equal_among in not-above-same i h e)
    run-among (suc left) i h e = go (ltb-cases (i + 1) t.count) (bool_cases (same (the_first_key (region_at rss (i + 1))) target)) (run-among left (i + 1))
      where
        ends : last_equal_among (suc left) target rss i ≡ i → last_equal (suc left) b t target i ≡ ok i
            → (last_equal (suc left) b t target i ≡ ok (last_equal_among (suc left) target rss i)) × StartsAt (last_equal_among (suc left) target rss i)
        ends is p = rw is (p, not-above-same i h e)

        go : ((ltb (i + 1) t.count ≡ true) × (i + 1 < t.count)) ⊎ ((ltb (i + 1) t.count ≡ false) × (t.count ≤ i + 1))
            → (same (the_first_key (region_at rss (i + 1))) target ≡ true) ⊎ (same (the_first_key (region_at rss (i + 1))) target ≡ false)
            → (i + 1 < t.count → same (the_first_key (region_at rss (i + 1))) target ≡ true
            → (last_equal left b t target (i + 1) ≡ ok (last_equal_among left target rss (i + 1))) × StartsAt (last_equal_among left target rss (i + 1)))
            → (last_equal (suc left) b t target i ≡ ok (last_equal_among (suc left) target rss i)) × StartsAt (last_equal_among (suc left) target rss i)
        go (inl c) (inl u) ih =
            let is : last_equal_among (suc left) target rss i ≡ last_equal_among left target rss (i + 1) = unfold last_equal_among in rw (many, c.0, u) in
            let r = ih c.1 u in
            rw is (equal-on left b t target i (the_first_key (region_at rss (i + 1))) c.1 (cut_at (i + 1) c.1).key-is u ∙ r.0, r.1)
        go (inl c) (inr u) ih =
            ends (unfold last_equal_among in rw (many, c.0, u)) (equal-ends left b t target i (the_first_key (region_at rss (i + 1))) c.1 (cut_at (i + 1) c.1).key-is u)
        go (inr c) u ih = ends (unfold last_equal_among in rw (many, c.0)) (equal_over (suc left) b t target i c.1)

    -- one before where the search closed
    earlier : (place : ℕ) → place ≤ t.count → ((i : ℕ) → suc i ≡ place → 0 ≤ i → restart_below b t target i ≡ ok true) → StartsAt (place - 1)
    earlier zero h f = record { inside = (trailer_of-tells b t q.trailer-good).1; fit = inl refl }
    earlier (suc p) h f =
        let n : suc p - 1 ≡ p = omega arith in
        rw n (not-above-below p h (f p refl zero-le))

    pub start-among : (f : Found) → Closed (restart_below b t target) 0 t.count f
        → (start_down b t target f.place ≡ ok (start_among target rss f.place)) × StartsAt (start_among target rss f.place)
    start-among f c =
        ⊎_elim
        (λ h.
        ⊎_elim
        (λ e.
        let r = run-among t.count f.place h.1 e in
        rw (many, h.0, e) (sym (start-run b t target f.place h.1 (the_first_key (region_at rss f.place)) (cut_at f.place h.1).key-is e (sym r.0)), r.1))
        (λ e. rw (many, h.0, e) (sym (start-earlier b t target f.place h.1 (the_first_key (region_at rss f.place)) (cut_at f.place h.1).key-is e), earlier f.place c.to c.before))
        (bool_cases (same (the_first_key (region_at rss f.place)) target)))
        (λ h. rw (many, h.0) (sym (start-past b t target f.place h.1), earlier f.place c.to c.before))
        (ltb-cases f.place t.count)

    -- where the walk lands: after the last row at or below the target, or it is done
    pub data LandsAfter (rows : List Keyed) : Res Cursor → Type 0 where
      after : (c : Cursor) → 0 < length rows → After b t c rows → LandsAfter rows (ok c)
      nowhere : rows ≡ [] → LandsAfter rows (ok done_down)

    pub down-among : (region : ℕ) → StartsAt region → LandsAfter (left_down target rss region) (walk_down (suc region) b t target region)
    down-among region s = go (through target (keys_of K)) refl
      where
        c : Cut region
        c = cut_at region s.inside

        K : List Keyed
        K = region_at rss region

        inside : c.g.end ≤ c.g.start + t.size
        inside = omega (arith, (region_of-tells b t region c.g c.used).inside)

        go : (j : ℕ) → through target (keys_of K) ≡ j → LandsAfter (left_down target rss region) (walk_down (suc region) b t target region)
        go zero e = nothing s.fit
          where
            nothing : (region ≡ 0) ⊎ (below target (the_first_key K) ≡ false) → LandsAfter (left_down target rss region) (walk_down (suc region) b t target region)
            nothing x = ⊎_elim first (λ y. absurd (never y)) x
              where
                never : below target (the_first_key K) ≡ false → ⊥
                never y =
                    let n : through target (keys_of K) ≡ suc (through target (keys_of c.ks)) =
                    ap (λ (x : List Keyed). through target (keys_of x)) c.are ∙ through-step target c.k.key (keys_of c.ks) (sym (ap (λ (x : List Keyed). below target (the_first_key x)) c.are) ∙ y) in
                    omega (arith, n, e)

                first : region ≡ 0 → LandsAfter (left_down target rss region) (walk_down (suc region) b t target region)
                first z =
                    let best = last-ends t.size (data_of b t) c.g target c.g.start [] c.g.start K t.size inside inside c.rows-here in
                    let none-best : ends_at c.g.start (take (through target (keys_of K)) K) ≡ c.g.start = rw e (unfold ends_at in refl) in
                    rw (← falling-done b t target region region (falling-start b t target region) c.g c.used (ends_at c.g.start (take (through target (keys_of K)) K)) best (omega (arith, none-best)) z)
                    (nowhere (rw (e, z) (unfold all_rows in refl)))
        go (suc j) e =
            let best = last-ends t.size (data_of b t) c.g target c.g.start [] c.g.start K t.size inside inside c.rows-here in
            let most = through-most target K in
            let later : c.g.start < ends_at c.g.start (take (through target (keys_of K)) K) =
            rw e (ends-later t.size (data_of b t) c.g c.g.start [] K j c.rows-here inside (omega (arith, most, e))) in
            rw (← falling-found b t target region region (falling-start b t target region) c.g c.used (ends_at c.g.start (take (through target (keys_of K)) K)) best later)
            (after (cursor_at b t descending region (ends_at c.g.start (take (through target (keys_of K)) K)) [] false) some
            (stands_after b t region c.g (take region rss) K (through target (keys_of K)) q.trailer-good s.inside c.used c.front c.rows-here))
          where
            some : 0 < length (left_down target rss region)
            some =
                omega (arith, through-most target K, e, length-take-le (through target (keys_of K)) K (through-most target K), length-append (all_rows (take region rss)) (take (through target (keys_of K)) K))
