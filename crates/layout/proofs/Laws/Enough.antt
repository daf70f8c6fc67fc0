-- A definition that goes over rows, or over restarts, counts its steps down: `left`. As many as there are bytes, or restarts, are always enough: with any two
-- numbers that are, it answers the same. One induction for all of them, over what each does in a step.
use Prim.Native.Nat.{ℕ, zero, suc, ◌+◌, ◌<◌, ◌≤◌}
use Rattle.std.specs.Prelude.{◌≡◌, cond, not, List, length}
use Rattle.std.proofs.Math.Path.{refl}
use Rattle.std.proofs.Common.{ap, sym, ◌∙◌, ⊎_elim, arith, lt-ltb, le-ltb}
use Rattle.layout.specs.Res.{Res, ok, refuse}
use Rattle.layout.specs.Key.{Key, below, may_follow}
use Rattle.layout.specs.RowRead.{RowRead, key_of}
use Rattle.layout.specs.Trailer.{Trailer, data_of, Region, region_of, row_in}
use Rattle.layout.specs.Check.{Passed, passed_is, read_rank, check_row, check_from}
use Rattle.layout.specs.Cursor.{row_ending_at}
use Rattle.layout.specs.Seek.{walk_region, last_equal, last_at_or_below}
use Rattle.layout.proofs.Laws.Res.{bind-then, guard-then, ok-inj, ltb-cases}
use Rattle.layout.proofs.Laws.Tells.{row_in-ends}

-- a fold over places up to `end`, with what it carries: past the end it stops, and a step goes on from a later place
module _ {S A : Type 0} (fold : ℕ → ℕ → S → A) (end : ℕ) (over : (n at : ℕ) (s : S) → end ≤ at → fold n at s ≡ fold 0 at s)
    (step : (m n at : ℕ) (s : S) → at < end → ((at' : ℕ) (s' : S) → at < at' → fold m at' s' ≡ fold n at' s') → fold (suc m) at s ≡ fold (suc n) at s) where
  enough : (m n at : ℕ) (s : S) → end ≤ at + m → end ≤ at + n → fold m at s ≡ fold n at s
  enough zero n at s h k = sym (over n at s (omega arith))
  enough (suc m) zero at s h k = over (suc m) at s (omega arith)
  enough (suc m) (suc n) at s h k =
      ⊎_elim (λ t. step m n at s t.1 (λ at' s' on. enough m n at' s' (omega arith) (omega arith))) (λ t. over (suc m) at s t.1 ∙ sym (over (suc n) at s t.1)) (ltb-cases at end)

-- a row that the check passes moves it on
check_row-on : (b : List ℕ) (t : Trailer) (p q : Passed) → check_row b t p ≡ ok q → p.at < q.at
unfolding check_row
check_row-on b t p q e =
    bind-then (region_of b t p.region) _ q e λ g _ e₁.
    bind-then (row_in (data_of b t) g p.at (length p.before.key)) _ q e₁ λ r u e₂.
    guard-then (not (may_follow p.before (read_rank (data_of b t) p.before.key r))) 17 _ q e₂ λ _ e₃.
    let on = (row_in-ends (data_of b t) g p.at (length p.before.key) r u).least in
    let at = ap (λ (x : Passed). x.at) (ok-inj e₃) in
    omega (arith, on, at)

-- ---- the ascending walk of a region, and the descending read of one

module _ (d : List ℕ) (g : Region) (target : Key) where
  pub walk_region-enough : (m n at : ℕ) (before : Key) → g.end ≤ at + m → g.end ≤ at + n → walk_region m d g target at before ≡ walk_region n d g target at before
  unfolding walk_region
  walk_region-enough = enough (λ n at before. walk_region n d g target at before) g.end over step
    where
      over : (n at : ℕ) (before : Key) → g.end ≤ at → walk_region n d g target at before ≡ walk_region 0 d g target at before
      over zero at before h = refl
      over (suc n) at before h = rw (le-ltb at g.end h)

      step : (m n at : ℕ) (before : Key) → at < g.end → ((at' : ℕ) (before' : Key) → at < at' → walk_region m d g target at' before' ≡ walk_region n d g target at' before')
          → walk_region (suc m) d g target at before ≡ walk_region (suc n) d g target at before
      step m n at before h more = go (row_in d g at (length before)) refl
        where
          go : (x : Res RowRead) → row_in d g at (length before) ≡ x → walk_region (suc m) d g target at before ≡ walk_region (suc n) d g target at before
          go (ok r) e = rw (lt-ltb at g.end h, e, more r.next (key_of d before r) (omega (arith, (row_in-ends d g at (length before) r e).least)))
          go (refuse k) e = rw (lt-ltb at g.end h, e)

  -- what is carried: the key before, and where the last row at or below the target ended
  pub last_at_or_below-enough : (m n at : ℕ) (before : Key) (best : ℕ) → g.end ≤ at + m → g.end ≤ at + n → last_at_or_below m d g target at before best ≡ last_at_or_below n d g target at before best
  unfolding last_at_or_below
  last_at_or_below-enough m n at before best = enough (λ k i (s : Key × ℕ). last_at_or_below k d g target i s.0 s.1) g.end over step m n at (before, best)
    where
      over : (n at : ℕ) (s : Key × ℕ) → g.end ≤ at → last_at_or_below n d g target at s.0 s.1 ≡ last_at_or_below 0 d g target at s.0 s.1
      over zero at s h = refl
      over (suc n) at s h = rw (le-ltb at g.end h)

      step : (m n at : ℕ) (s : Key × ℕ) → at < g.end
          → ((at' : ℕ) (s' : Key × ℕ) → at < at' → last_at_or_below m d g target at' s'.0 s'.1 ≡ last_at_or_below n d g target at' s'.0 s'.1)
          → last_at_or_below (suc m) d g target at s.0 s.1 ≡ last_at_or_below (suc n) d g target at s.0 s.1
      step m n at s h more = go (row_in d g at (length s.0)) refl
        where
          go : (x : Res RowRead) → row_in d g at (length s.0) ≡ x → last_at_or_below (suc m) d g target at s.0 s.1 ≡ last_at_or_below (suc n) d g target at s.0 s.1
          go (ok r) e =
              rw (lt-ltb at g.end h, e)
              (more r.next (key_of d s.0 r, cond (below target (key_of d s.0 r)) s.1 r.next) (omega (arith, (row_in-ends d g at (length s.0) r e).least)))
          go (refuse k) e = rw (lt-ltb at g.end h, e)

-- ---- the step back: up to its position

pub row_ending_at-enough : (m n : ℕ) (d : List ℕ) (g : Region) (stop at : ℕ) (before : Key) → at < stop → stop ≤ at + m → stop ≤ at + n
    → row_ending_at m d g stop at before ≡ row_ending_at n d g stop at before
unfolding row_ending_at
row_ending_at-enough zero n d g stop at before l h k = absurd (omega arith)
row_ending_at-enough (suc m) zero d g stop at before l h k = absurd (omega arith)
row_ending_at-enough (suc m) (suc n) d g stop at before l h k = go (row_in d g at (length before)) refl (row_ending_at-enough m n d g stop)
  where
    go : (x : Res RowRead) → row_in d g at (length before) ≡ x
        → ((at : ℕ) (before : Key) → at < stop → stop ≤ at + m → stop ≤ at + n → row_ending_at m d g stop at before ≡ row_ending_at n d g stop at before)
        → row_ending_at (suc m) d g stop at before ≡ row_ending_at (suc n) d g stop at before
    go (ok r) e ih =
        let on = (row_in-ends d g at (length before) r e).least in
        ⊎_elim (λ t. rw (e, t.0, ih r.next (key_of d before r) t.1 (omega arith) (omega arith))) (λ t. rw (e, t.0)) (ltb-cases r.next stop)
    go (refuse j) e ih = rw e

-- ---- the run of equal restarts

pub last_equal-enough : (b : List ℕ) (t : Trailer) (target : Key) (m n i : ℕ) → t.count ≤ i + m → t.count ≤ i + n → last_equal m b t target i ≡ last_equal n b t target i
unfolding last_equal
last_equal-enough b t target m n i h k = enough (λ n i (s : Unit {0}). last_equal n b t target i) t.count over step m n i tt h k
  where
    over : (n i : ℕ) (s : Unit {0}) → t.count ≤ i → last_equal n b t target i ≡ last_equal 0 b t target i
    over zero i s h = refl
    over (suc n) i s h = rw (le-ltb (i + 1) t.count (omega arith))

    step : (m n i : ℕ) (s : Unit {0}) → i < t.count → ((j : ℕ) (s : Unit {0}) → i < j → last_equal m b t target j ≡ last_equal n b t target j)
        → last_equal (suc m) b t target i ≡ last_equal (suc n) b t target i
    step m n i s h more = rw (more (i + 1) tt (omega arith))

-- ---- the check

pub check_from-enough : (b : List ℕ) (t : Trailer) (m n : ℕ) (p : Passed) → t.size ≤ p.at + m → t.size ≤ p.at + n → check_from m b t p ≡ check_from n b t p
unfolding check_from
check_from-enough b t m n p h k = enough (λ n at (s : Passed). check_from n b t (from at s)) t.size over step m n p.at p h k
  where
    from : ℕ → Passed → Passed
    from at s = passed_is at s.region s.before s.rows

    over : (n at : ℕ) (s : Passed) → t.size ≤ at → check_from n b t (from at s) ≡ check_from 0 b t (from at s)
    over zero at s h = refl
    over (suc n) at s h = rw (le-ltb at t.size h)

    step : (m n at : ℕ) (s : Passed) → at < t.size → ((at' : ℕ) (s' : Passed) → at < at' → check_from m b t (from at' s') ≡ check_from n b t (from at' s'))
        → check_from (suc m) b t (from at s) ≡ check_from (suc n) b t (from at s)
    step m n at s h more = go (check_row b t (from at s)) refl
      where
        go : (x : Res Passed) → check_row b t (from at s) ≡ x → check_from (suc m) b t (from at s) ≡ check_from (suc n) b t (from at s)
        go (ok q) e = rw (lt-ltb at t.size h, e) (more q.at q (check_row-on b t (from at s) q e))
        go (refuse j) e = rw (lt-ltb at t.size h, e)
