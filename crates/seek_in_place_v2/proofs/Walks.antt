-- A seek's promise from what its walk met: one law for each exit of the walks from region to region.
-- The count of the search stands beside what the walk leaves: a refusal gives back the place that came, a landing has no key or the one that the walk up leaves, "done" has no key.
use Prim.Native.Nat.{ℕ, zero, suc, ◌+◌, ◌-◌, ◌<◌, ◌≤◌}
use mathlib.Core.Path.{◌≡◌, refl, ap, ap₂, sym, ◌∙◌}
use mathlib.Core.Bool.{true, false}
use mathlib.Core.List.{List, []}
use mathlib.Core.Logic.{⊎_elim}
use native.Mathlib.Omega.{arith}
use native.Mathlib.Numerals.{unary_clauses}
use lib.ListN.{length, take, drop}
use lib.Seq.{take_at}
use borrow.Author.Tests.{lt-ltb, le-ltb}
use Rattle.layout.specs.Res.{Res, ok, refuse, bind}
use Rattle.layout.specs.Key.{Key, below}
use Rattle.layout.specs.Limits.{max_key}
use Rattle.layout.specs.Place.{splice}
use Rattle.layout.specs.RowRead.{key_of}
use Rattle.layout.specs.Trailer.{Trailer, trailer_of, data_of, Region, region_of, row_in}
use Rattle.layout.specs.Number.{ended_by, number_at}
use Rattle.layout.specs.Cursor.{ascending, Cursor, cursor_is}
use Rattle.layout.specs.Seek.{Stop, stop_is, walk_region, Sought, done_down, last_at_or_below, walk_down}
use Rattle.layout.proofs.Laws.Seek.{Falling, falling-done, falling-more}
use Rattle.layout.proofs.Laws.Res.{bind-then, cond-ok, ltb-cases, ok-inj}
use Rattle.layout.proofs.Laws.Number.{number_in}
use Rattle.layout.proofs.Laws.Tells.{row_in-ends}
use Rattle.layout.proofs.Laws.Trailer.{region_of-tells}
use Rattle.basics.specs.Number.{number}
use Rattle.basics.specs.Says.{says_order}
use Rattle.basics.specs.declared.IterationOrder.{IterationOrder}
use Rattle.basics.specs.declared.IterationOrder.TheVariants.{Ascending}
use Rattle.basics.specs.declared.Refusal.{Refusal}
use Rattle.std.specs.Prelude.{Result, Ok, Err, IsErrAnd}
use Rattle.trailer.specs.Says.{region_from}
use Rattle.trailer.specs.declared.Region.{Region as RegionC}
use Rattle.block_regions_v2.specs.declared.Stop.{Stop as StopC}
use Rattle.block_regions_v2.specs.Laws.{handed-promise, into-stopped}
use Rattle.block_regions_v2.specs.Promise.{WalksInto}
use Rattle.step_in_place_v2.proofs.Laws.{carries-key}
use Rattle.place_v2.specs.declared.Place.{Place}
use Rattle.seek_in_place_v2.specs.declared.Found.{Found}
use Rattle.seek_in_place_v2.specs.Parts.{landed_at, over_at, sought}
use Rattle.seek_in_place_v2.specs.Promise.{Finds}

-- ---- any seek

module _ (want : Res Sought) (p : Place) (key : List ℕ) where
  pub finds-not : {x : Refusal} {key' : List ℕ} → want ≡ refuse (number x) → key' ≡ key → Finds want p key (Err x) key'
  finds-not e q = rw (e, q) (record { answer = refl; view = refl; whole = refl })

  pub finds-handed : (r : Result Found Refusal) (x : Refusal) → IsErrAnd r (λ q. q ≡ x) → {key' : List ℕ} → want ≡ refuse (number x) → key' ≡ key → Finds want p key r key'
  finds-handed r x h {key'} e q = handed-promise (λ (r : Result Found Refusal). Finds want p key r key') r x h (finds-not e q)

  pub finds_as : {w : Res Sought} {r : Result Found Refusal} {key' : List ℕ} → want ≡ w → Finds w p key r key' → Finds want p key r key'
  finds_as e s = rw e s

-- ---- what a walk leaves, beside the count of the search before it

module _ (x : Res Cursor) (reads : ℕ) (p : Place) (key : List ℕ) where
  pub walked-handed : (r : Result Found Refusal) (y : Refusal) → IsErrAnd r (λ q. q ≡ y) → {key' : List ℕ} → refuse (number y) ≡ x → key' ≡ key → Finds (bind x (sought reads)) p key r key'
  walked-handed r y h e q = finds-handed (bind x (sought reads)) p key r y h (ap (λ (z : Res Cursor). bind z (sought reads)) (sym e)) q

  -- with no key
  pub walked_to : (order : IterationOrder) (region at : ℕ) {m n : ℕ} {r : Found} → ok (cursor_is (says_order order) region at m [] false) ≡ x → n ≡ m → r ≡ landed_at order region at n 0 reads
      → {key' : List ℕ} → Finds (bind x (sought reads)) p key (Ok r) key'
  walked_to order region at e same is = rw (is, sym e, same) (record { answer = refl; view = refl; whole = tt })

  pub walked-off : (order : IterationOrder) (region at : ℕ) {m n : ℕ} {r : Found} → ok (cursor_is (says_order order) region at m [] true) ≡ x → n ≡ m → r ≡ over_at order region at n reads
      → {key' : List ℕ} → Finds (bind x (sought reads)) p key (Ok r) key'
  walked-off order region at e same is = rw (is, sym e, same) (record { answer = refl; view = refl; whole = tt })

  -- with the key that the walk leaves
  pub walked-up : (region at len : ℕ) (before : Key) {m n : ℕ} {r : Found} {key' : List ℕ} → ok (cursor_is ascending region at m before false) ≡ x → n ≡ m → length before ≡ len
      → key' ≡ splice key 0 before → r ≡ landed_at Ascending region at n len reads → Finds (bind x (sought reads)) p key (Ok r) key'
  unfolding splice
  walked-up region at len before {m = m} e same long q is =
      let front : take len (splice key 0 before) ≡ before = rw (← long) (take_at before (drop (0 + length before) key) (length before) refl) in
      rw (is, q, sym e, same) (record { answer = refl; view = carries-key region at m front long; whole = tt })

-- ---- what the walk of a region tells: where it stopped, which number that place has, and what it left of the key's bytes

pub record Stops (b : List ℕ) (t : Trailer) (i : ℕ) (g : RegionC) (target : Key) (key : List ℕ) (at n m : ℕ) (key' : List ℕ) : Type 0 where
  pub before : Key
  pub walked : walk_region t.size (data_of b t) (region_from g) target g.start [] ≡ ok (stop_is at before)
  pub long : length before ≡ n
  pub inner : at < g.end → key' ≡ splice key 0 before
  pub outer : g.end ≤ at → key' ≡ key
  pub counts : m ≡ number_at b t i at

module _ (b : List ℕ) (t : Trailer) (i : ℕ) (g : RegionC) (target : Key) (read : trailer_of b ≡ ok t) (is : region_of b t i ≡ ok (region_from g)) (key : List ℕ) (whole : length key ≡ max_key) (r : Result StopC Refusal) (key' : List ℕ) (w : WalksInto (data_of b t) g target key r key') {h : StopC} (e : r ≡ Ok h) where
  pub stopped : Stops b t i g target key h.at h.key_len h.number key'
  stopped =
      let s = into-stopped b t i g target read is key whole r key' w e in
      let place : s.0.at ≡ h.at = s.2 in
      record {
        before = s.0.before;
        walked = s.1 ∙ ap (λ (a : ℕ). ok (stop_is a s.0.before)) place;
        long = s.3;
        inner = λ u. s.4 ∙ rw (place, lt-ltb h.at g.end u);
        outer = λ u. s.4 ∙ rw (place, le-ltb h.at g.end u);
        counts = sym (number_in b t i h.at (region_from g) is ∙ ap (ended_by (data_of b t) (region_from g)) (sym place) ∙ s.5);
      }

-- no walk goes past its region's end
walk-within : (d : List ℕ) (g : Region) (fuel : ℕ) (target : Key) (at : ℕ) (before : Key) (s : Stop) → walk_region fuel d g target at before ≡ ok s → at ≤ g.end → s.at ≤ g.end
unfolding walk_region
walk-within d g zero target at before s e h = let w : stop_is at before ≡ s = ok-inj e in rw (← w) h
walk-within d g (suc fuel) target at before s e h =
    ⊎_elim
    (λ t.
    bind-then (row_in d g at (length before)) _ s (rw t.0 at e) λ r p q.
    ⊎_elim
    (λ u. walk-within d g fuel target r.next (key_of d before r) s u.1 (row_in-ends d g at (length before) r p).within)
    (λ u. stays (ok-inj u.1))
    (cond-ok (below (key_of d before r) target) _ _ s q))
    (λ t. stays (ok-inj (rw t.0 at e)))
    (ltb-cases at g.end)
  where
    stays : stop_is at before ≡ s → s.at ≤ g.end
    stays w = rw (← w) h

-- past the last region as many rows are passed as it has
abbrev pub PastLast : List ℕ → Trailer → ℕ → ℕ → ℕ → Type 0
PastLast b t first i n = first < i → i ≡ t.count → n ≡ number_at b t (t.count - 1) t.size

pub past-none : (b : List ℕ) (t : Trailer) (first n : ℕ) → PastLast b t first first n
past-none b t first n h e = absurd (omega arith)

pub past-region : (b : List ℕ) (t : Trailer) (first i : ℕ) (g : RegionC) (target : Key) (key : List ℕ) (at n m : ℕ) (key' : List ℕ) → region_of b t i ≡ ok (region_from g)
    → Stops b t i g target key at n m key' → g.end ≤ at → PastLast b t first (i + 1) m
past-region b t first i g target key at n m key' e s over h z =
    let tells = region_of-tells b t i (region_from g) e in
    let ends = walk-within (data_of b t) (region_from g) t.size target g.start [] (stop_is at s.before) s.walked (omega (arith, tells.rises)) in
    let there : at ≡ t.size = omega (arith, (tells.last (omega arith)).0, ends) in
    let index : i ≡ t.count - 1 = omega arith in
    s.counts ∙ ap₂ (number_at b t) index there

-- what is left of a walk down, with n regions from the first on still to be read
abbrev pub FallsTo : List ℕ → Trailer → Key → ℕ → ℕ → Type 0
FallsTo b t target first zero = ok done_down ≡ walk_down (suc first) b t target first
FallsTo b t target first (suc r) = Falling b t target first r

pub falls-at : (b : List ℕ) (t : Trailer) (target : Key) (first n : ℕ) → 0 < n → FallsTo b t target first n → Falling b t target first (n - 1)
falls-at b t target first zero h s = absurd (omega (arith, h))
falls-at b t target first (suc r) h s = simp unary_clauses s

pub falls-on : (b : List ℕ) (t : Trailer) (target : Key) (first region : ℕ) → Falling b t target first region → (g : Region) → region_of b t region ≡ ok g → (best : ℕ)
    → last_at_or_below t.size (data_of b t) g target g.start [] g.start ≡ ok best → best ≤ g.start → FallsTo b t target first region
falls-on b t target first zero s g e best w k = falling-done b t target first zero s g e best w k refl
falls-on b t target first (suc r) s g e best w k = simp unary_clauses at (falling-more b t target first (suc r) s g e best w k (λ z. omega (arith, z)))
