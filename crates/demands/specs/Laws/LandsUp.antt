-- An ascending seek on a block whose rows are read, and never fall: it stands before the first row at or above the target, or says "done" when there is none.
-- The search closes after a restart below the target, so nothing before the region that the walk starts in is at or above it; the walk itself is the definition's
-- count of leading rows, region by region.
use Rattle.std.specs.Prelude.{ℕ, zero, suc, ◌+◌, ◌-◌, ◌<◌, ◌≤◌, ◌≡◌, refl, Bool, true, false, List, [], ◌∷◌, ◌++◌, eqb, length, drop}
use Rattle.std.proofs.Common.{zero-le, ap, sym, ◌∙◌, ⊎_elim, arith, length-append, length-drop, drop_of_length-le, drop_at, drop-drop, lt-ltb, le-ltb}
use Rattle.std.proofs.lemmas.List.{drop-append-le}
use Rattle.layout.specs.Res.{Res, ok}
use Rattle.layout.specs.Limits.{max_key}
use Rattle.layout.specs.Key.{Key, below, leading, is_below}
use Rattle.layout.specs.RowRead.{RowRead, key_of}
use Rattle.layout.specs.Trailer.{Trailer, trailer_of, data_of, Region, region_of, row_in}
use Rattle.layout.specs.Cursor.{ascending, Cursor, cursor_at, Keyed, keyed}
use Rattle.layout.specs.Seek.{restart_below, Stop, stop_is, walk_region, done_up, walk_up, sought_is, seek}
use Rattle.demands.specs.Reads.{region_rows, regions_rows, Reads, all_rows, keys_of}
use Rattle.layout.proofs.Laws.Res.{ltb-cases, ok-inj}
use Rattle.layout.proofs.Laws.Trailer.{region_of-tells}
use Rattle.layout.proofs.Laws.Tells.{row_in-ends}
use Rattle.layout.proofs.Laws.Carry.{key_of-length}
use Rattle.demands.specs.Laws.Split.{split_at, searched}
use Rattle.layout.proofs.Laws.Seek.{below-is, up_from, seek_is}
use Rattle.demands.specs.Laws.Reads.{region-at, region-over, RegionsAre, next as next-region, regions-are, regions-none, regions-cons, all_rows-none, all_rows-next}
use Rattle.demands.specs.Laws.Counted.{counted_stop}
use Rattle.demands.specs.Laws.Ascend.{Before}
use Rattle.demands.specs.Laws.Sorted.{NeverFall, AllPass, leading-all, leading-most, leading_step, leading-stop, leading-within, leading-whole, all-below}

-- ---- the walk of one region

-- where it stops: before the first row that is not below the target, with what is then left of the region
pub record Stopped (d : List ℕ) (g : Region) (target : Key) (fuel at : ℕ) (before : Key) (ks : List Keyed) : Type 0 where
  pub s : Stop
  pub stops : walk_region fuel d g target at before ≡ ok s
  pub from : at ≤ s.at
  pub to : s.at ≤ g.end
  pub fits : length s.before ≤ max_key
  pub left : ℕ
  pub enough : g.end ≤ s.at + left
  pub rows_left : region_rows left d g s.at s.before ≡ ok (drop (leading (is_below target) (keys_of ks)) ks)

walk-over : (fuel : ℕ) (d : List ℕ) (g : Region) (target : Key) (at : ℕ) (before : Key) → g.end ≤ at → walk_region fuel d g target at before ≡ ok (stop_is at before)
unfolding walk_region
walk-over zero d g target at before h = refl
walk-over (suc fuel) d g target at before h = rw (le-ltb at g.end h)

pub walk_here : (fuel : ℕ) (d : List ℕ) (g : Region) (target : Key) (at : ℕ) (before : Key) (r : RowRead) → at < g.end → row_in d g at (length before) ≡ ok r
    → below (key_of d before r) target ≡ false → walk_region (suc fuel) d g target at before ≡ ok (stop_is at before)
unfolding walk_region
walk_here fuel d g target at before r h p b = rw (lt-ltb at g.end h, p, b)

walk-on : (fuel : ℕ) (d : List ℕ) (g : Region) (target : Key) (at : ℕ) (before : Key) (r : RowRead) → at < g.end → row_in d g at (length before) ≡ ok r
    → below (key_of d before r) target ≡ true → walk_region (suc fuel) d g target at before ≡ walk_region fuel d g target r.next (key_of d before r)
unfolding walk_region
walk-on fuel d g target at before r h p b = rw (lt-ltb at g.end h, p, b)

drop-none : {A : Type 0} (n : ℕ) → ◌≡◌ {A = List A} (drop n []) []
drop-none zero = refl
drop-none (suc n) = refl

walk-ended : (fuel : ℕ) (d : List ℕ) (g : Region) (target : Key) (at : ℕ) (before : Key) (ks : List Keyed) (left : ℕ) → g.end ≤ at → at ≤ g.end → length before ≤ max_key
    → g.end ≤ at + left → region_rows left d g at before ≡ ok ks → ks ≡ [] → Stopped d g target fuel at before ks
walk-ended fuel d g target at before ks left over i f n p is =
    record {
      s = stop_is at before;
      stops = walk-over fuel d g target at before over;
      from = omega arith;
      to = i;
      fits = f;
      left = left;
      enough = n;
      rows_left = p ∙ rw is (ap ok (sym (drop-none (leading (is_below target) []))));
    }

pub walk-stops : (fuel : ℕ) (d : List ℕ) (g : Region) (target : Key) (at : ℕ) (before : Key) (ks : List Keyed) (left : ℕ) → g.end ≤ at + fuel → at ≤ g.end → length before ≤ max_key
    → g.end ≤ at + left → region_rows left d g at before ≡ ok ks → Stopped d g target fuel at before ks
walk-stops zero d g target at before ks left h i f n p =
    let none : ks ≡ [] = ok-inj (sym p ∙ region-over left d g at before (omega arith)) in
    walk-ended zero d g target at before ks left (omega arith) i f n p none
walk-stops (suc fuel) d g target at before ks left h i f n p =
    region-at left d g at before ks p n
    (λ over is. walk-ended (suc fuel) d g target at before ks left over i f n p is)
    (λ r qs m lt u more enough is. rw is (go r qs m lt u more enough (p ∙ ap ok is) (below (key_of d before r) target) refl (walk-stops fuel d g target)))
  where
    go : (r : RowRead) (qs : List Keyed) (m : ℕ) → at < g.end → row_in d g at (length before) ≡ ok r
        → region_rows m d g r.next (key_of d before r) ≡ ok qs → g.end ≤ r.next + m → region_rows left d g at before ≡ ok (keyed r (key_of d before r) ∷ qs) → (t : Bool) → below (key_of d before r) target ≡ t
        → ((at : ℕ) (before : Key) (ks : List Keyed) (left : ℕ) → g.end ≤ at + fuel → at ≤ g.end → length before ≤ max_key → g.end ≤ at + left → region_rows left d g at before ≡ ok ks
        → Stopped d g target fuel at before ks)
        → Stopped d g target (suc fuel) at before (keyed r (key_of d before r) ∷ qs)
    go r qs m lt u more enough all true e ih =
        let w = row_in-ends d g at (length before) r u in
        let q = ih r.next (key_of d before r) qs m (omega (arith, w.least)) w.within (rw (key_of-length d at g.end before (eqb at g.start) r u) w.fits) enough more in
        record {
          s = q.s;
          stops = walk-on fuel d g target at before r lt u e ∙ q.stops;
          from = omega (arith, q.from, w.least);
          to = q.to;
          fits = q.fits;
          left = q.left;
          enough = q.enough;
          rows_left = q.rows_left ∙ rw (leading_step (is_below target) (keyed r (key_of d before r)) qs e);
        }
    go r qs m lt u more enough all false e ih =
        record {
          s = stop_is at before;
          stops = walk_here fuel d g target at before r lt u e;
          from = omega arith;
          to = i;
          fits = f;
          left = left;
          enough = n;
          rows_left = all ∙ rw (leading-stop (is_below target) (keyed r (key_of d before r)) qs e);
        }

-- ---- from region to region

up-on : (left : ℕ) (b : List ℕ) (t : Trailer) (target : Key) (region : ℕ) (g : Region) (s : Stop) → region_of b t region ≡ ok g
    → walk_region t.size (data_of b t) g target g.start [] ≡ ok s → g.end ≤ s.at → walk_up (suc left) b t target region ≡ walk_up left b t target (suc region)
unfolding walk_up
up-on left b t target region g s u w h = rw (u, w, le-ltb s.at g.end h)

pub up-here : (left : ℕ) (b : List ℕ) (t : Trailer) (target : Key) (region : ℕ) (g : Region) (s : Stop) → region_of b t region ≡ ok g
    → walk_region t.size (data_of b t) g target g.start [] ≡ ok s → s.at < g.end → walk_up (suc left) b t target region ≡ ok (cursor_at b t ascending region s.at s.before false)
unfolding walk_up
up-here left b t target region g s u w h = rw (u, w, lt-ltb s.at g.end h)

up_none : (b : List ℕ) (t : Trailer) (target : Key) (region : ℕ) → walk_up 0 b t target region ≡ ok (done_up b t)
unfolding walk_up
up_none b t target region = refl

-- where a walk up lands among the rows to come: before the first at or above the target, or it is done
pub data LandsUp (b : List ℕ) (t : Trailer) (target : Key) (rows : List Keyed) : Res Cursor → Type 0 where
  lands : (c : Cursor) → leading (is_below target) (keys_of rows) < length rows → Before b t c (drop (leading (is_below target) (keys_of rows)) rows) → LandsUp b t target rows (ok c)
  passes : leading (is_below target) (keys_of rows) ≡ length rows → LandsUp b t target rows (ok (done_up b t))

-- rows that are all below may be skipped
skip : (b : List ℕ) (t : Trailer) (target : Key) (ks rows : List Keyed) (x : Res Cursor) → AllPass (is_below target) ks → LandsUp b t target rows x
    → LandsUp b t target (ks ++ rows) x
skip b t target ks rows x e (lands c h q) =
    let n : leading (is_below target) (keys_of (ks ++ rows)) ≡ length ks + leading (is_below target) (keys_of rows) = leading-all (is_below target) ks rows e in
    let d : drop (leading (is_below target) (keys_of (ks ++ rows))) (ks ++ rows) ≡ drop (leading (is_below target) (keys_of rows)) rows =
    ap (λ (k : ℕ). drop k (ks ++ rows)) n ∙ sym (drop-drop (leading (is_below target) (keys_of rows)) (length ks) (ks ++ rows)) ∙ ap (drop (leading (is_below target) (keys_of rows))) (drop_at ks rows (length ks) refl) in
    lands c (rw (n, length-append ks rows) (omega arith)) (rw d q)
skip b t target ks rows x e (passes q) =
    passes (leading-all (is_below target) ks rows e ∙ rw (q, length-append ks rows))

-- what a count within leaves
drop-within : {A : Type 0} (n : ℕ) (xs ys : List A) → n < length xs → drop n (xs ++ ys) ≡ drop n xs ++ ys
drop-within n xs ys h = drop-append-le n xs ys (omega arith)

pub walk-lands : (left : ℕ) (b : List ℕ) (t : Trailer) (target : Key) (region : ℕ) (rest : List (List Keyed)) → trailer_of b ≡ ok t → region + left ≡ t.count
    → regions_rows left b t region ≡ ok rest → LandsUp b t target (all_rows rest) (walk_up left b t target region)
walk-lands zero b t target region rest e n p =
    let z : rest ≡ [] = regions-none b t region rest p in
    let a : all_rows rest ≡ [] = rw z all_rows-none in
    rw (up_none b t target region, a) (passes (unfold leading in refl))
walk-lands (suc left) b t target region rest e n p = go rest (regions-are left b t region rest p) (walk-lands left b t target (suc region))
  where
    go : (rest : List (List Keyed)) → RegionsAre left b t region rest
        → ((rest : List (List Keyed)) → trailer_of b ≡ ok t → suc region + left ≡ t.count → regions_rows left b t (suc region) ≡ ok rest
        → LandsUp b t target (all_rows rest) (walk_up left b t target (suc region)))
        → LandsUp b t target (all_rows rest) (walk_up (suc left) b t target region)
    go rest (next-region g ks more u q w) ih =
        let tells = region_of-tells b t region g u in
        let st = walk-stops t.size (data_of b t) g target g.start [] ks t.size (omega (arith, tells.inside)) (omega (arith, tells.rises)) zero-le (omega (arith, tells.inside)) q in
        ⊎_elim (λ c. inside st c.1) (λ c. past st c.1) (ltb-cases st.s.at g.end)
      where
        n₁ : leading (is_below target) (keys_of ks) ≤ length ks
        n₁ = leading-most (is_below target) ks

        -- it stops inside: the region's rows from there on are to come
        inside : (st : Stopped (data_of b t) g target t.size g.start [] ks) → st.s.at < g.end → LandsUp b t target (all_rows (ks ∷ more)) (walk_up (suc left) b t target region)
        inside st h =
            let tells = region_of-tells b t region g u in
            let i : leading (is_below target) (keys_of ks) < length ks = some st h in
            let within : leading (is_below target) (keys_of (ks ++ all_rows more)) ≡ leading (is_below target) (keys_of ks) = leading-within (is_below target) ks (all_rows more) i in
            let m : t.count - suc region ≡ left = omega arith in
            rw (up-here left b t target region g st.s u st.stops h, all_rows-next ks more)
            (lands (cursor_at b t ascending region st.s.at st.s.before false) (rw (within, length-append ks (all_rows more)) (omega arith))
            (record {
              here = drop (leading (is_below target) (keys_of ks)) ks;
              rest = more;
              stands =
                  record {
                    g = g;
                    goes-up = refl;
                    unmarked = refl;
                    trailer-good = e;
                    inside = omega arith;
                    used = u;
                    low = st.from;
                    high = omega (arith, tells.near);
                    whole = refl;
                    fits = st.fits;
                    counted = counted_stop b t region g u target t.size st.s st.stops;
                    left = st.left;
                    enough = st.enough;
                    rows-here = st.rows_left;
                    rows_then = rw m w;
                  };
              are = rw within (drop-within (leading (is_below target) (keys_of ks)) ks (all_rows more) i);
            }))
          where
            some : (st : Stopped (data_of b t) g target t.size g.start [] ks) → st.s.at < g.end → leading (is_below target) (keys_of ks) < length ks
            some st h =
                ⊎_elim (λ c. c.1)
                (λ c. absurd (never (st.rows_left ∙ ap ok (drop_of_length-le ks c.1))))
                (ltb-cases (leading (is_below target) (keys_of ks)) (length ks))
              where
                never : region_rows st.left (data_of b t) g st.s.at st.s.before ≡ ok [] → ⊥
                never z =
                    region-at st.left (data_of b t) g st.s.at st.s.before [] z st.enough
                    (λ over is. absurd (omega arith))
                    (λ r qs m lt p more enough is. absurd (let y : ◌≡◌ {A = ℕ} 0 1 = cc in omega arith))

        -- it stops at the region's end: all its rows are below
        past : (st : Stopped (data_of b t) g target t.size g.start [] ks) → g.end ≤ st.s.at → LandsUp b t target (all_rows (ks ∷ more)) (walk_up (suc left) b t target region)
        past st h =
            let none : drop (leading (is_below target) (keys_of ks)) ks ≡ [] = ok-inj (sym st.rows_left ∙ region-over st.left (data_of b t) g st.s.at st.s.before h) in
            let whole : leading (is_below target) (keys_of ks) ≡ length ks = omega (arith, ap length none, length-drop (leading (is_below target) (keys_of ks)) ks, n₁) in
            rw (up-on left b t target region g st.s u st.stops h, all_rows-next ks more) (skip b t target ks (all_rows more) (walk_up left b t target (suc region)) (leading-whole (is_below target) ks whole) (ih more e (omega arith) w))

-- ---- the seek

pub record SeeksUp (b : List ℕ) (t : Trailer) (target : Key) (rows : List Keyed) : Type 0 where
  pub c : Cursor
  pub reads : ℕ
  pub is : seek ascending b target ≡ ok (sought_is c reads)
  pub landing : LandsUp b t target rows (ok c)

-- a landing is a cursor
pub landed : (b : List ℕ) (t : Trailer) (target : Key) (rows : List Keyed) (x : Res Cursor) → LandsUp b t target rows x → (c : Cursor) × (x ≡ ok c)
landed b t target rows x (lands c h q) = (c, refl)
landed b t target rows x (passes q) = (done_up b t, refl)

pub seeks-up : (b : List ℕ) (t : Trailer) (rss : List (List Keyed)) (target : Key) → Reads b t rss → NeverFall [] (all_rows rss) → SeeksUp b t target (all_rows rss)
seeks-up b t rss target q o =
    let s = searched b t rss target q in
    let l = walked s.f.place (s.f.place - 1) refl s.closed.to s.closed.before in
    let c = landed b t target (all_rows rss) (walk_up (t.count - (s.f.place - 1)) b t target (s.f.place - 1)) l in
    record {
      c = c.0;
      reads = s.f.reads;
      is = seek_is ascending b target t q.trailer-good s.f s.is c.0 (sym (up_from b t target s.f.place (sym c.1)));
      landing = rw c.1 at l;
    }
  where
    -- from the region before the one where the search closed
    walked : (place first : ℕ) → first ≡ place - 1 → place ≤ t.count → ((i : ℕ) → suc i ≡ place → 0 ≤ i → restart_below b t target i ≡ ok true)
        → LandsUp b t target (all_rows rss) (walk_up (t.count - first) b t target first)
    walked zero first z h f =
        let y : first ≡ 0 = omega arith in
        rw y (walk-lands (t.count - 0) b t target 0 rss q.trailer-good (omega arith) (ap (λ (m : ℕ). regions_rows m b t 0) (omega arith) ∙ q.rows-read))
    walked (suc p) first z h f =
        let y : first ≡ p = omega arith in
        let w = split_at b t rss q p h in
        let under : below w.k.key target ≡ true = ok-inj (sym (below-is b t p target w.k.key w.key-is) ∙ f p refl zero-le) in
        let n : t.count - p ≡ suc (t.count - suc p) = omega arith in
        let rest : regions_rows (t.count - p) b t p ≡ ok ((w.k ∷ w.ks) ∷ w.rest) =
        ap (λ (m : ℕ). regions_rows m b t p) n ∙ regions-cons (t.count - suc p) b t p w.g (w.k ∷ w.ks) w.rest w.used w.rows-here w.rows_then in
        let first_rows : AllPass (is_below target) (all_rows w.fs) = all-below target [] (all_rows w.fs) w.k (w.ks ++ all_rows w.rest) (rw w.are at o) under in
        let here : LandsUp b t target (all_rows ((w.k ∷ w.ks) ∷ w.rest)) (walk_up (t.count - p) b t target p) =
        walk-lands (t.count - p) b t target p ((w.k ∷ w.ks) ∷ w.rest) q.trailer-good (omega arith) rest in
        rw (y, w.are) (skip b t target (all_rows w.fs) ((w.k ∷ w.ks) ++ all_rows w.rest) (walk_up (t.count - p) b t target p) first_rows (rw (all_rows-next (w.k ∷ w.ks) w.rest) at here))
