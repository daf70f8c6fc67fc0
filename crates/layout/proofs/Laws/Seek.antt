-- Each way through a seek, by what was met on it: the search as a recursive function meets it, the run of equal restarts, and both walks from region to region.
-- A loop's record says that what is left to do, from here, answers what the whole does.
use Prim.Native.Nat.{ℕ, zero, suc, ◌+◌, ◌-◌, ◌<◌, ◌≤◌}
use Rattle.std.specs.Prelude.{◌≡◌, refl, true, false, List, []}
use Rattle.std.proofs.Math.Path.{ap}
use Rattle.std.proofs.Common.{sym, ◌∙◌, arith, add-one}
use borrow.Author.Tests.{lt-ltb, le-ltb}
use Rattle.layout.specs.Res.{Res, ok, refuse}
use Rattle.layout.specs.Key.{Key, below, same}
use Rattle.layout.specs.RowRead.{KeyRead, read_key, joined}
use Rattle.layout.specs.Trailer.{Trailer, trailer_of, data_of, Region, region_of}
use Rattle.layout.specs.Cursor.{Direction, ascending, descending, Cursor, cursor_at}
use Rattle.layout.specs.Seek.{Found, restart_key, restart_below, search_restarts, Stop, walk_region, done_up, walk_up, seek_up, last_equal, start_down, last_at_or_below, done_down, walk_down, seek_down, sought_is, seek_along, seek}
use Rattle.layout.proofs.Laws.Res.{spend}
use Rattle.layout.proofs.Laws.Search.{on-whole}
use Rattle.layout.specs.Laws.Seek.{search_from}

-- ---- a restart's key

module _ (b : List ℕ) (t : Trailer) (i : ℕ) where
  pub restart-region : {n : ℕ} → region_of b t i ≡ refuse n → restart_key b t i ≡ refuse n
  unfolding restart_key
  restart-region e = rw e

  module _ (g : Region) (e : region_of b t i ≡ ok g) where
    pub restart-no : {n : ℕ} → read_key (data_of b t) g.start g.end 0 true ≡ refuse n → restart_key b t i ≡ refuse n
    unfolding restart_key
    restart-no q = rw (e, q)

    pub restart-is : (k : KeyRead) → read_key (data_of b t) g.start g.end 0 true ≡ ok k → restart_key b t i ≡ ok (joined (data_of b t) [] k.shared k.suffix_at k.suffix_len)
    unfolding restart_key
    restart-is k q = rw (e, q)

  module _ (target : Key) where
    pub below-no : {n : ℕ} → restart_key b t i ≡ refuse n → restart_below b t target i ≡ refuse n
    unfolding restart_below
    below-no e = rw e

    pub below-is : (k : Key) → restart_key b t i ≡ ok k → restart_below b t target i ≡ ok (below k target)
    unfolding restart_below
    below-is k e = rw e

-- ---- the search, which carries its count

pub search-whole : (b : List ℕ) (t : Trailer) (target : Key) {x : Res Found} → x ≡ search_from b t target 0 t.count 0 → x ≡ search_restarts b t target
unfolding search_restarts
search-whole b t target e = on-whole (restart_below b t target) t.count e

-- ---- from region to region, up

module _ (b : List ℕ) (t : Trailer) (target : Key) where
  pub record Climbing (first region : ℕ) : Type 0 where
    pub left : ℕ
    pub regions : region + left ≡ first + (t.count - first)
    pub makes : walk_up left b t target region ≡ walk_up (t.count - first) b t target first

  pub climbing_start : (first : ℕ) → Climbing first first
  climbing_start first = record { left = t.count - first; regions = refl; makes = refl }

  module _ (first region : ℕ) (s : Climbing first region) where
    climbed : region < t.count → first ≤ t.count → {A : Type 0} → ((left : ℕ) → region + suc left ≡ first + (t.count - first) → walk_up (suc left) b t target region ≡ walk_up (t.count - first) b t target first → A) → A
    climbed h f₀ f =
        spend (λ (n : ℕ). walk_up n b t target region) s.left (λ z. absurd (omega (arith, s.regions))) s.makes
        λ more is m. f more (omega (arith, s.regions)) m

    module _ (f₀ : first ≤ t.count) where
      pub climbing_over : t.count ≤ region → ok (done_up b t) ≡ walk_up (t.count - first) b t target first
      unfolding walk_up
      climbing_over h = go s.left s.regions s.makes
        where
          go : (left : ℕ) → region + left ≡ first + (t.count - first) → walk_up left b t target region ≡ walk_up (t.count - first) b t target first → ok (done_up b t) ≡ walk_up (t.count - first) b t target first
          go zero q m = m
          go (suc left) q m = absurd (omega arith)

      module _ (h : region < t.count) where
        pub climbing_region : {n : ℕ} → region_of b t region ≡ refuse n → refuse n ≡ walk_up (t.count - first) b t target first
        unfolding walk_up
        climbing_region e = climbed h f₀ λ left q m. rw e at m

        module _ (g : Region) (e : region_of b t region ≡ ok g) where
          pub climbing_no : {n : ℕ} → walk_region t.size (data_of b t) g target g.start [] ≡ refuse n → refuse n ≡ walk_up (t.count - first) b t target first
          unfolding walk_up
          climbing_no w = climbed h f₀ λ left q m. rw (e, w) at m

          module _ (p : Stop) (w : walk_region t.size (data_of b t) g target g.start [] ≡ ok p) where
            pub climbing_found : p.at < g.end → ok (cursor_at b t ascending region p.at p.before false) ≡ walk_up (t.count - first) b t target first
            unfolding walk_up
            climbing_found k = climbed h f₀ λ left q m. rw (e, w, lt-ltb p.at g.end k) at m

            pub climbing_more : g.end ≤ p.at → Climbing first (region + 1)
            unfolding walk_up
            climbing_more k =
                climbed h f₀ λ left q m.
                record { left = left; regions = omega arith; makes = ap (walk_up left b t target) (add-one region) ∙ rw (e, w, le-ltb p.at g.end k) at m }

-- ---- from region to region, down

module _ (b : List ℕ) (t : Trailer) (target : Key) (left region : ℕ) where
  fall_region : {n : ℕ} → region_of b t region ≡ refuse n → walk_down (suc left) b t target region ≡ refuse n
  unfolding walk_down
  fall_region e = rw e

  module _ (g : Region) (e : region_of b t region ≡ ok g) where
    fall_no : {n : ℕ} → last_at_or_below t.size (data_of b t) g target g.start [] g.start ≡ refuse n → walk_down (suc left) b t target region ≡ refuse n
    unfolding walk_down
    fall_no w = rw (e, w)

    module _ (best : ℕ) (w : last_at_or_below t.size (data_of b t) g target g.start [] g.start ≡ ok best) where
      fall_found : g.start < best → walk_down (suc left) b t target region ≡ ok (cursor_at b t descending region best [] false)
      unfolding walk_down
      fall_found k = rw (e, w, lt-ltb g.start best k)

      fall_on : best ≤ g.start → walk_down (suc left) b t target region ≡ walk_down left b t target (region - 1)
      unfolding walk_down
      fall_on k = rw (e, w, le-ltb g.start best k)

fall_none : (b : List ℕ) (t : Trailer) (target : Key) (region : ℕ) → walk_down 0 b t target region ≡ ok done_down
unfolding walk_down
fall_none b t target region = refl

-- region `region` is the next to read
pub record Falling (b : List ℕ) (t : Trailer) (target : Key) (first region : ℕ) : Type 0 where
  pub makes : walk_down (suc region) b t target region ≡ walk_down (suc first) b t target first

pub falling-start : (b : List ℕ) (t : Trailer) (target : Key) (first : ℕ) → Falling b t target first first
falling-start b t target first = record { makes = refl }

module _ (b : List ℕ) (t : Trailer) (target : Key) (first region : ℕ) (s : Falling b t target first region) where
  pub falling-region : {n : ℕ} → region_of b t region ≡ refuse n → refuse n ≡ walk_down (suc first) b t target first
  falling-region e = sym (fall_region b t target region region e) ∙ s.makes

  module _ (g : Region) (e : region_of b t region ≡ ok g) where
    pub falling-no : {n : ℕ} → last_at_or_below t.size (data_of b t) g target g.start [] g.start ≡ refuse n → refuse n ≡ walk_down (suc first) b t target first
    falling-no w = sym (fall_no b t target region region g e w) ∙ s.makes

    module _ (best : ℕ) (w : last_at_or_below t.size (data_of b t) g target g.start [] g.start ≡ ok best) where
      pub falling-found : g.start < best → ok (cursor_at b t descending region best [] false) ≡ walk_down (suc first) b t target first
      falling-found k = sym (fall_found b t target region region g e best w k) ∙ s.makes

      pub falling-done : best ≤ g.start → region ≡ 0 → ok done_down ≡ walk_down (suc first) b t target first
      falling-done k z =
          sym (fall_none b t target (region - 1))
          ∙ ap (λ (n : ℕ). walk_down n b t target (region - 1)) (sym z)
          ∙ sym (fall_on b t target region region g e best w k)
          ∙ s.makes

      pub falling-more : best ≤ g.start → (region ≡ 0 → ⊥) → Falling b t target first (region - 1)
      falling-more k z =
          record {
            makes =
                ap (λ (n : ℕ). walk_down n b t target (region - 1)) (omega arith)
                ∙ sym (fall_on b t target region region g e best w k)
                ∙ s.makes;
          }

-- ---- the run of restarts equal to the target

module _ (b : List ℕ) (t : Trailer) (target : Key) where
  pub record Running (first i : ℕ) : Type 0 where
    pub left : ℕ
    pub enough : t.count ≤ i + left
    pub makes : last_equal left b t target i ≡ last_equal t.count b t target first

  pub running_start : (first : ℕ) → Running first first
  running_start first = record { left = t.count; enough = omega arith; makes = refl }

  module _ (first i : ℕ) (s : Running first i) where
    ran : i + 1 < t.count → {A : Type 0} → ((left : ℕ) → t.count ≤ i + suc left → last_equal (suc left) b t target i ≡ last_equal t.count b t target first → A) → A
    ran h f =
        spend (λ (n : ℕ). last_equal n b t target i) s.left (λ z. absurd (omega (arith, s.enough))) s.makes
        λ more is m. f more (omega (arith, s.enough)) m

    pub running_over : t.count ≤ i + 1 → ok i ≡ last_equal t.count b t target first
    unfolding last_equal
    running_over h = go s.left s.makes
      where
        go : (left : ℕ) → last_equal left b t target i ≡ last_equal t.count b t target first → ok i ≡ last_equal t.count b t target first
        go zero m = m
        go (suc left) m = rw (le-ltb (i + 1) t.count h) at m

    module _ (h : i + 1 < t.count) where
      pub running_no : {n : ℕ} → restart_key b t (i + 1) ≡ refuse n → refuse n ≡ last_equal t.count b t target first
      unfolding last_equal
      running_no e = ran h λ left q m. rw (lt-ltb (i + 1) t.count h, e) at m

      module _ (k : Key) (e : restart_key b t (i + 1) ≡ ok k) where
        pub running_ends : same k target ≡ false → ok i ≡ last_equal t.count b t target first
        unfolding last_equal
        running_ends q' = ran h λ left q m. rw (lt-ltb (i + 1) t.count h, e, q') at m

        pub running_more : same k target ≡ true → Running first (i + 1)
        unfolding last_equal
        running_more q' = ran h λ left q m. record { left = left; enough = omega arith; makes = rw (lt-ltb (i + 1) t.count h, e, q') at m }

module _ (b : List ℕ) (t : Trailer) (target : Key) (place : ℕ) where
  pub start-past : t.count ≤ place → ok (place - 1) ≡ start_down b t target place
  unfolding start_down
  start-past h = rw (le-ltb place t.count h)

  module _ (h : place < t.count) where
    pub start-no : {n : ℕ} → restart_key b t place ≡ refuse n → refuse n ≡ start_down b t target place
    unfolding start_down
    start-no e = rw (lt-ltb place t.count h, e)

    module _ (k : Key) (e : restart_key b t place ≡ ok k) where
      pub start-earlier : same k target ≡ false → ok (place - 1) ≡ start_down b t target place
      unfolding start_down
      start-earlier q = rw (lt-ltb place t.count h, e, q)

      pub start-run : {x : Res ℕ} → same k target ≡ true → x ≡ last_equal t.count b t target place → x ≡ start_down b t target place
      unfolding start_down
      start-run q r = rw (lt-ltb place t.count h, e, q) r

-- ---- the whole seek

module _ (b : List ℕ) (t : Trailer) (target : Key) (place : ℕ) where
  pub up_from : {x : Res Cursor} → x ≡ walk_up (t.count - (place - 1)) b t target (place - 1) → x ≡ seek_up b t target place
  unfolding seek_up
  up_from e = e

  pub down-no : {n : ℕ} → start_down b t target place ≡ refuse n → refuse n ≡ seek_down b t target place
  unfolding seek_down
  down-no e = rw e

  pub down-from : {x : Res Cursor} (region : ℕ) → start_down b t target place ≡ ok region → x ≡ walk_down (suc region) b t target region → x ≡ seek_down b t target place
  unfolding seek_down
  down-from region e w = rw e w

module _ (d : Direction) (b : List ℕ) (target : Key) where
  pub seek-trailer : {n : ℕ} → trailer_of b ≡ refuse n → seek d b target ≡ refuse n
  unfolding seek
  seek-trailer e = rw e

  module _ (t : Trailer) (e : trailer_of b ≡ ok t) where
    pub seek-search : {n : ℕ} → search_restarts b t target ≡ refuse n → seek d b target ≡ refuse n
    unfolding seek
    seek-search q = rw (e, q)

    module _ (f : Found) (q : search_restarts b t target ≡ ok f) where
      pub seek-no : {n : ℕ} → seek_along d b t target f.place ≡ refuse n → seek d b target ≡ refuse n
      unfolding seek
      seek-no w = rw (e, q, w)

      pub seek_is : (c : Cursor) → seek_along d b t target f.place ≡ ok c → seek d b target ≡ ok (sought_is c f.reads)
      unfolding seek
      seek_is c w = rw (e, q, w)
