-- How far a seek reads after its search, on every block on which the search answers. It closes behind a restart below the target and at one that is not, so an ascending walk ends at the
-- latest at that one's first row; a descending one starts at a restart at or below the target, whose row is then the last that it can need.
use Prim.Native.Nat.{ℕ, zero, suc, ◌+◌, ◌-◌, ◌<◌, ◌≤◌, min, zero-le}
use Rattle.std.specs.Prelude.{◌≡◌, Bool, cond, ◌⊎◌, ltb, length}
use Rattle.std.proofs.Math.Path.{refl, ap, sym}
use Rattle.std.proofs.Common.{◌∙◌}
use Rattle.std.proofs.Math.Bool.{true, false}
use mathlib.Core.List.{List, []}
use Rattle.std.proofs.Math.Logic.{⊎_elim, inl, inr}
use native.Mathlib.Omega.{arith}
use borrow.Author.Tests.{lt-ltb, eq-eqb}
use Rattle.layout.specs.Res.{Res, ok, refuse}
use Rattle.layout.specs.Key.{Key, below, same}
use Rattle.layout.specs.RowRead.{RowRead, read_row, key_of}
use Rattle.layout.specs.Trailer.{Trailer, trailer_of, data_of, offset_at, Region, region_of, row_in}
use Rattle.layout.specs.Cursor.{ascending, Cursor, cursor_at}
use Rattle.layout.specs.Seek.{Found, restart_key, restart_below, search_restarts, stop_is, walk_region, done_up, walk_up, seek_up, last_equal, start_down, last_at_or_below, walk_down, seek_down}
use Rattle.layout.proofs.Laws.Res.{bind-then, cond-ok, ltb-cases, ok-inj}
use Rattle.layout.proofs.Laws.Key.{below-le, le_below, at-most-refl, same-is}
use Rattle.layout.proofs.Laws.Trailer.{region_of-tells, trailer_of-tells}
use Rattle.layout.specs.Laws.Tells.{key_part}
use Rattle.layout.proofs.Laws.Tells.{read_key-of-read_row, row_in-ends}
use Rattle.layout.specs.Laws.Search.{Closed}
use Rattle.layout.proofs.Laws.Search.{search-closed}
use Rattle.layout.proofs.Laws.Seek.{restart-is}
use Rattle.demands.specs.Walked.{StopsUp, in_before, at-start, nowhere, StartsDown, earlier, in_run}
use Rattle.demands.specs.Laws.LandsUp.{walk_here, up-here}

module _ (b : List ℕ) (t : Trailer) where
  restart-used : (i : ℕ) (k : Key) → restart_key b t i ≡ ok k → (g : Region) × (region_of b t i ≡ ok g)
  unfolding restart_key
  restart-used i k e = bind-then (region_of b t i) _ k e λ g u q. (g, u)

  -- a restart's key, read alone, is that of its row, read whole
  restart-row : (i : ℕ) (g : Region) (k : Key) (r : RowRead) → region_of b t i ≡ ok g → restart_key b t i ≡ ok k → row_in (data_of b t) g g.start 0 ≡ ok r
      → key_of (data_of b t) [] r ≡ k
  restart-row i g k r u e p =
      let whole : read_row (data_of b t) g.start g.end 0 true ≡ ok r = ap (read_row (data_of b t) g.start g.end 0) (sym (eq-eqb g.start g.start refl)) ∙ p in
      ok-inj (sym (restart-is b t i g u (key_part r) (read_key-of-read_row (data_of b t) g.start g.end 0 true r whole)) ∙ e)

module _ (b : List ℕ) (t : Trailer) (target : Key) where
  below-tells : (i : ℕ) (x : Bool) → restart_below b t target i ≡ ok x → (k : Key) × (restart_key b t i ≡ ok k) × (below k target ≡ x)
  unfolding restart_below
  below-tells i x e = bind-then (restart_key b t i) _ x e λ k p q. (k, p, ok-inj q)

  closed : (f : Found) → search_restarts b t target ≡ ok f → Closed (restart_below b t target) 0 t.count f
  unfolding search_restarts
  closed f e = search-closed (restart_below b t target) 0 t.count f zero-le e

  -- ---- ascending

  walk_no : (fuel : ℕ) (d : List ℕ) (g : Region) (at n : ℕ) (before : Key) → at < g.end → 0 < fuel → row_in d g at (length before) ≡ refuse n → walk_region fuel d g target at before ≡ refuse n
  unfolding walk_region
  walk_no zero d g at n before h s p = absurd (omega arith)
  walk_no (suc fuel) d g at n before h s p = rw (lt-ltb at g.end h, p)

  walk_first : (fuel : ℕ) (d : List ℕ) (g : Region) (r : RowRead) → g.start < g.end → 0 < fuel → row_in d g g.start 0 ≡ ok r → below (key_of d [] r) target ≡ false
      → walk_region fuel d g target g.start [] ≡ ok (stop_is g.start [])
  walk_first zero d g r h s p e = absurd (omega arith)
  walk_first (suc fuel) d g r h s p e = walk_here fuel d g target g.start [] r h p e

  up-no : (left region n : ℕ) (g : Region) → region_of b t region ≡ ok g → walk_region t.size (data_of b t) g target g.start [] ≡ refuse n → walk_up (suc left) b t target region ≡ refuse n
  unfolding walk_up
  up-no left region n g u w = rw (u, w)

  up-alike : (m n region : ℕ) → walk_up m b t target (suc region) ≡ walk_up n b t target (suc region) → walk_up (suc m) b t target region ≡ walk_up (suc n) b t target region
  unfolding walk_up
  up-alike m n region e = rw e

  -- where a region's restart is not below the target, no row after it is read
  record AtFirst (region : ℕ) : Type 0 where
    x : Res Cursor
    answers : (left : ℕ) → walk_up (suc left) b t target region ≡ x
    there : (c : Cursor) → x ≡ ok c → (c.region ≡ region) × (c.at ≡ offset_at b t region)

  at_first : (region : ℕ) → restart_below b t target region ≡ ok false → AtFirst region
  at_first region e =
      let k = below-tells region false e in
      let g = restart-used b t region k.0 k.1 in
      go k.0 k.1 k.2 g.0 g.1 (row_in (data_of b t) g.0 g.0.start 0) refl
    where
      go : (k : Key) → restart_key b t region ≡ ok k → below k target ≡ false → (g : Region) → region_of b t region ≡ ok g → (y : Res RowRead) → row_in (data_of b t) g g.start 0 ≡ y → AtFirst region
      go k kp kb g u (ok r) p =
          let tells = region_of-tells b t region g u in
          let w = walk_first t.size (data_of b t) g r tells.rises (omega (arith, tells.rises, tells.inside)) p (ap (λ (z : Key). below z target) (restart-row b t region g k r u kp p) ∙ kb) in
          record {
            x = ok (cursor_at b t ascending region g.start [] false);
            answers = λ left. up-here left b t target region g (stop_is g.start []) u w tells.rises;
            there =
                λ c e.
                let is : cursor_at b t ascending region g.start [] false ≡ c = ok-inj e in
                (sym (ap (λ (z : Cursor). z.region) is), sym (ap (λ (z : Cursor). z.at) is) ∙ tells.from);
          }
      go k kp kb g u (refuse n) p =
          let tells = region_of-tells b t region g u in
          let w = walk_no t.size (data_of b t) g g.start n [] tells.rises (omega (arith, tells.rises, tells.inside)) p in
          record { x = refuse n; answers = λ left. up-no left region n g u w; there = λ c e. absurd (let z : ◌≡◌ {A = ℕ} 0 1 = cc in omega arith) }

  pub up-two : (f : Found) → trailer_of b ≡ ok t → search_restarts b t target ≡ ok f
      → seek_up b t target f.place ≡ walk_up (min 2 (t.count - (f.place - 1))) b t target (f.place - 1)
  unfolding seek_up
  up-two f tr e = go f.place (closed f e).to (closed f e).here
    where
      some : 1 ≤ t.count
      some = (trailer_of-tells b t tr).1

      go : (place : ℕ) → place ≤ t.count → (place < t.count → restart_below b t target place ≡ ok false)
          → walk_up (t.count - (place - 1)) b t target (place - 1) ≡ walk_up (min 2 (t.count - (place - 1))) b t target (place - 1)
      go zero h here =
          let a = at_first 0 (here (omega (arith, some))) in
          let m : t.count - (0 - 1) ≡ suc (t.count - 1) = omega (arith, some) in
          let n : min 2 (t.count - (0 - 1)) ≡ suc (min 1 (t.count - 1)) = omega (arith, some) in
          ap (λ (k : ℕ). walk_up k b t target 0) m ∙ a.answers (t.count - 1) ∙ sym (a.answers (min 1 (t.count - 1))) ∙ ap (λ (k : ℕ). walk_up k b t target 0) (sym n)
      go (suc p) h here =
          let q : suc p - 1 ≡ p = omega arith in
          rw q
          (⊎_elim
          (λ c.
          let a = at_first (suc p) (here c.1) in
          let m : t.count - p ≡ suc (suc (t.count - suc (suc p))) = omega (arith, c.1) in
          let n : min 2 (t.count - p) ≡ 2 = omega (arith, c.1) in
          ap (λ (k : ℕ). walk_up k b t target p) m ∙ up-alike (suc (t.count - suc (suc p))) 1 p (a.answers (t.count - suc (suc p)) ∙ sym (a.answers 0)) ∙ ap (λ (k : ℕ). walk_up k b t target p) (sym n))
          (λ c. ap (λ (k : ℕ). walk_up k b t target p) (omega (arith, c.1)))
          (ltb-cases (suc p) t.count))

  -- a walk that answers stops in its first region, or goes on in the next
  up-goes : (left region : ℕ) (c : Cursor) → walk_up (suc left) b t target region ≡ ok c → (c.region ≡ region) ⊎ (walk_up left b t target (suc region) ≡ ok c)
  unfolding walk_up
  up-goes left region c e =
      bind-then (region_of b t region) _ c e λ g u e₁.
      bind-then (walk_region t.size (data_of b t) g target g.start []) _ c e₁ λ s w e₂.
      ⊎_elim
      (λ h. let is : cursor_at b t ascending region s.at s.before false ≡ c = ok-inj h.1 in inl (sym (ap (λ (z : Cursor). z.region) is)))
      (λ h. inr h.1)
      (cond-ok (ltb s.at g.end) _ _ c e₂)

  up-over : (region : ℕ) (c : Cursor) → walk_up 0 b t target region ≡ ok c → c ≡ done_up b t
  unfolding walk_up
  up-over region c e = sym (ok-inj e)

  pub up-stops : (f : Found) (c : Cursor) → trailer_of b ≡ ok t → search_restarts b t target ≡ ok f → seek_up b t target f.place ≡ ok c → StopsUp b t f.place c
  unfolding seek_up
  up-stops f c tr e q = go f.place (closed f e).to (closed f e).here q
    where
      some : 1 ≤ t.count
      some = (trailer_of-tells b t tr).1

      go : (place : ℕ) → place ≤ t.count → (place < t.count → restart_below b t target place ≡ ok false) → walk_up (t.count - (place - 1)) b t target (place - 1) ≡ ok c → StopsUp b t place c
      go zero h here q =
          let a = at_first 0 (here (omega (arith, some))) in
          let m : t.count - (0 - 1) ≡ suc (t.count - 1) = omega (arith, some) in
          let w = a.there c (sym (a.answers (t.count - 1)) ∙ ap (λ (k : ℕ). walk_up k b t target 0) (sym m) ∙ q) in
          at-start w.0 w.1
      go (suc p) h here q =
          let m : t.count - (suc p - 1) ≡ suc (t.count - suc p) = omega arith in
          let n : suc p - 1 ≡ p = omega arith in
          let q' : walk_up (suc (t.count - suc p)) b t target p ≡ ok c = rw (m, n) at q in
          ⊎_elim
          (λ s. in_before (omega (arith, s)))
          (λ w.
          ⊎_elim
          (λ l.
          let a = at_first (suc p) (here l.1) in
          let k : t.count - suc p ≡ suc (t.count - suc (suc p)) = omega (arith, l.1) in
          let r = a.there c (sym (a.answers (t.count - suc (suc p))) ∙ ap (λ (x : ℕ). walk_up x b t target (suc p)) (sym k) ∙ w) in
          at-start r.0 r.1)
          (λ l.
          let k : t.count - suc p ≡ 0 = omega (arith, l.1) in
          nowhere (omega (arith, l.1)) (up-over (suc p) c (ap (λ (x : ℕ). walk_up x b t target (suc p)) (sym k) ∙ w)))
          (ltb-cases (suc p) t.count))
          (up-goes (t.count - suc p) p c q')

  -- ---- descending

  -- what was found before is not lost
  last-keeps : (fuel : ℕ) (d : List ℕ) (g : Region) (at : ℕ) (before : Key) (best x : ℕ) → best ≤ at → last_at_or_below fuel d g target at before best ≡ ok x → best ≤ x
  unfolding last_at_or_below
  last-keeps zero d g at before best x h e = let z : best ≡ x = ok-inj e in omega arith
  last-keeps (suc fuel) d g at before best x h e =
      ⊎_elim
      (λ c. bind-then (row_in d g at (length before)) _ x c.1 λ r p q. go r (row_in-ends d g at (length before) r p).least (below target (key_of d before r)) q (last-keeps fuel d g r.next (key_of d before r)))
      (λ c. let z : best ≡ x = ok-inj c.1 in omega arith)
      (cond-ok (ltb at g.end) _ _ x e)
    where
      go : (r : RowRead) → at + 12 ≤ r.next → (u : Bool) → last_at_or_below fuel d g target r.next (key_of d before r) (cond u best r.next) ≡ ok x
          → ((best x : ℕ) → best ≤ r.next → last_at_or_below fuel d g target r.next (key_of d before r) best ≡ ok x → best ≤ x) → best ≤ x
      go r far true q ih = ih best x (omega arith) q
      go r far false q ih = omega (arith, ih r.next x (omega arith) q)

  -- the first row is at or below the target, so a place behind it is found
  last-first : (fuel : ℕ) (d : List ℕ) (g : Region) (r : RowRead) (x : ℕ) → g.start < g.end → 0 < fuel → row_in d g g.start 0 ≡ ok r → below target (key_of d [] r) ≡ false
      → last_at_or_below fuel d g target g.start [] g.start ≡ ok x → g.start < x
  unfolding last_at_or_below
  last-first zero d g r x h s p e q = absurd (omega arith)
  last-first (suc fuel) d g r x h s p e q =
      omega (arith, (row_in-ends d g g.start 0 r p).least, last-keeps fuel d g r.next (key_of d [] r) r.next x (omega arith) (rw (lt-ltb g.start g.end h, p, e) at q))

  last-no : (fuel : ℕ) (d : List ℕ) (g : Region) (n : ℕ) → g.start < g.end → 0 < fuel → row_in d g g.start 0 ≡ refuse n
      → last_at_or_below fuel d g target g.start [] g.start ≡ refuse n
  unfolding last_at_or_below
  last-no zero d g n h s p = absurd (omega arith)
  last-no (suc fuel) d g n h s p = rw (lt-ltb g.start g.end h, p)

  -- a region that answers is the only one that is read
  down-refuses : (m n region i : ℕ) (g : Region) → region_of b t region ≡ ok g → last_at_or_below t.size (data_of b t) g target g.start [] g.start ≡ refuse i
      → walk_down (suc m) b t target region ≡ walk_down (suc n) b t target region
  unfolding walk_down
  down-refuses m n region i g u w = rw (u, w)

  down-finds : (m n region best : ℕ) (g : Region) → region_of b t region ≡ ok g → last_at_or_below t.size (data_of b t) g target g.start [] g.start ≡ ok best → g.start < best
      → walk_down (suc m) b t target region ≡ walk_down (suc n) b t target region
  unfolding walk_down
  down-finds m n region best g u w h = rw (u, w, lt-ltb g.start best h)

  -- where a region's restart is at or below the target, no other region is read
  down-here : (region : ℕ) (k : Key) → restart_key b t region ≡ ok k → below target k ≡ false → (m n : ℕ) → walk_down (suc m) b t target region ≡ walk_down (suc n) b t target region
  down-here region k e l m n = let g = restart-used b t region k e in go g.0 g.1
    where
      go : (g : Region) → region_of b t region ≡ ok g → walk_down (suc m) b t target region ≡ walk_down (suc n) b t target region
      go g u = read (last_at_or_below t.size (data_of b t) g target g.start [] g.start) refl (row_in (data_of b t) g g.start 0) refl
        where
          rises : g.start < g.end
          rises = (region_of-tells b t region g u).rises

          some : 0 < t.size
          some = omega (arith, (region_of-tells b t region g u).inside, rises)

          read : (x : Res ℕ) → last_at_or_below t.size (data_of b t) g target g.start [] g.start ≡ x → (y : Res RowRead) → row_in (data_of b t) g g.start 0 ≡ y
              → walk_down (suc m) b t target region ≡ walk_down (suc n) b t target region
          read (refuse i) w y p = down-refuses m n region i g u w
          read (ok best) w (ok r) p =
              down-finds m n region best g u w (last-first t.size (data_of b t) g r best rises some p (ap (below target) (restart-row b t region g k r u e p) ∙ l) w)
          read (ok best) w (refuse i) p = absurd (let z : ok best ≡ refuse i = sym w ∙ last-no t.size (data_of b t) g i rises some p in let y : ◌≡◌ {A = ℕ} 0 1 = cc in omega arith)

  run-of-one : (i region : ℕ) → i ≡ region → restart_key b t i ≡ ok target → (i ≤ region) × ((j : ℕ) → i ≤ j → j ≤ region → restart_key b t j ≡ ok target)
  run-of-one i region z k = (omega arith, λ j l h. let is : j ≡ i = omega arith in rw is k)

  -- the run of restarts that have the target as their key
  equal-run : (left i region : ℕ) → last_equal left b t target i ≡ ok region → restart_key b t i ≡ ok target
      → (i ≤ region) × ((j : ℕ) → i ≤ j → j ≤ region → restart_key b t j ≡ ok target)
  unfolding last_equal
  equal-run zero i region e k = run-of-one i region (ok-inj e) k
  equal-run (suc left) i region e k =
      ⊎_elim
      (λ c.
      bind-then (restart_key b t (i + 1)) _ region c.1 λ k₁ p q.
      ⊎_elim
      (λ s.
      let r = equal-run left (i + 1) region s.1 (p ∙ ap ok (same-is k₁ target s.0)) in
      (omega (arith, r.0), λ j l h. ⊎_elim (λ v. r.1 j (omega (arith, v.1)) h) (λ v. let is : j ≡ i = omega (arith, v.1) in rw is k) (ltb-cases i j)))
      (λ s. run-of-one i region (ok-inj s.1) k)
      (cond-ok (same k₁ target) _ _ region q))
      (λ c. run-of-one i region (ok-inj c.1) k)
      (cond-ok (ltb (i + 1) t.count) _ _ region e)

  pub down-starts : (place region : ℕ) → start_down b t target place ≡ ok region → StartsDown b t target place region
  unfolding start_down
  down-starts place region e =
      ⊎_elim
      (λ c.
      bind-then (restart_key b t place) _ region c.1 λ k p q.
      ⊎_elim
      (λ s. let r = equal-run t.count place region s.1 (p ∙ ap ok (same-is k target s.0)) in in_run r.0 r.1)
      (λ s. earlier (sym (ok-inj s.1)))
      (cond-ok (same k target) _ _ region q))
      (λ c. earlier (sym (ok-inj c.1)))
      (cond-ok (ltb place t.count) _ _ region e)

  pub down-one : (f : Found) (region : ℕ) → search_restarts b t target ≡ ok f → start_down b t target f.place ≡ ok region → seek_down b t target f.place ≡ walk_down 1 b t target region
  unfolding seek_down
  down-one f region e s = rw s (go region (down-starts f.place region s))
    where
      go : (region : ℕ) → StartsDown b t target f.place region → walk_down (suc region) b t target region ≡ walk_down 1 b t target region
      go zero st = refl
      go (suc p) (earlier z) =
          let k = below-tells (suc p) true ((closed f e).before (suc p) (omega arith) zero-le) in
          down-here (suc p) k.0 k.1 (le_below target k.0 (below-le k.0 target k.2)) (suc p) 0
      go (suc p) (in_run h run) = down-here (suc p) target (run (suc p) h (omega arith)) (le_below target target (at-most-refl target)) (suc p) 0
