-- The pair that a step gives names its row. Who has read n rows of a region, each where the one before it ended, stands before the row of that number, and n rows end at or before that
-- place: `Counted` goes on past each row that is read. So an ascending cursor's count names the next row; a step back counts the rows before the one that it finds.
use Prim.Native.Nat.{ℕ, zero, suc, ◌+◌, ◌<◌}
use Rattle.std.proofs.Math.Path.{◌≡◌, ap}
use Rattle.std.proofs.Common.{◌∙◌, zero-add, arith}
use Rattle.std.specs.Prelude.{List, [], ltb, eqb, length}
use Rattle.std.proofs.Math.Logic.{⊎_elim}
use Rattle.layout.specs.Res.{ok}
use Rattle.layout.specs.Key.{Key, below}
use Rattle.layout.specs.RowRead.{RowRead, key_of}
use Rattle.layout.specs.Trailer.{Trailer, data_of, Region, region_of, row_in}
use Rattle.layout.specs.Number.{ended_by, number_at}
use Rattle.layout.specs.Cursor.{Keyed, keyed, row_ending_at}
use Rattle.layout.specs.Seek.{Stop, stop_is, walk_region}
use Rattle.demands.specs.Reads.{row_number, Names}
use Rattle.layout.proofs.Laws.Res.{bind-then, guard-then, cond-ok, ok-inj}
use Rattle.layout.proofs.Laws.Carry.{key_of-length}
use Rattle.layout.proofs.Laws.Tells.{row_in-ends}
use Rattle.layout.specs.Laws.Number.{Counting}
use Rattle.layout.proofs.Laws.Number.{counting-start, counting-on, counting-here, number_in}
use Rattle.demands.specs.Laws.Numbered.{number-first, number-next}

-- n rows of the region were read, up to `at`, the last of them with the key `before`
pub record Counted (d : List ℕ) (g : Region) (at : ℕ) (before : Key) (n : ℕ) : Type 0 where
  pub counting : Counting d g at (length before) n
  pub numbers : (i : ℕ) → row_number (n + i) d g g.start [] ≡ row_number i d g at before

module _ (d : List ℕ) (g : Region) where
  pub counted_start : Counted d g g.start [] 0
  counted_start = record { counting = counting-start d g; numbers = λ i. ap (λ (m : ℕ). row_number m d g g.start []) (zero-add i) }

  module _ (at : ℕ) (before : Key) (n : ℕ) (c : Counted d g at before n) where
    -- as many rows end at or before that place
    pub counted-here : ended_by d g at ≡ n
    counted-here = counting-here d g at (length before) n c.counting

    module _ (r : RowRead) (e : row_in d g at (length before) ≡ ok r) where
      pub counted-on : Counted d g r.next (key_of d before r) (n + 1)
      counted-on =
          record {
            counting = rw (key_of-length d at g.end before (eqb at g.start) r e) (counting-on d g at (length before) n c.counting r e);
            numbers =
                λ i.
                let m : n + 1 + i ≡ n + suc i = omega arith in
                ap (λ (x : ℕ). row_number x d g g.start []) m ∙ c.numbers (suc i) ∙ number-next d g i at before r e;
          }

      -- the next row is the one of that number
      pub counted_next : row_number n d g g.start [] ≡ ok (keyed r (key_of d before r))
      counted_next =
          let m : n ≡ n + 0 = omega arith in
          ap (λ (x : ℕ). row_number x d g g.start []) m ∙ c.numbers 0 ∙ number-first d g at before r e

  -- the row that a step back finds is the one of the number that its start has
  pub counted_back : (left stop at : ℕ) (before : Key) (n : ℕ) (k : Keyed) → Counted d g at before n → row_ending_at left d g stop at before ≡ ok k
      → row_number (ended_by d g k.row.start) d g g.start [] ≡ ok k
  unfolding row_ending_at
  counted_back zero stop at before n k c e = absurd (let z : ◌≡◌ {A = ℕ} 0 1 = cc in omega arith)
  counted_back (suc left) stop at before n k c e =
      bind-then (row_in d g at (length before)) _ k e λ r p q.
      ⊎_elim
      (λ t. counted_back left stop r.next (key_of d before r) (n + 1) k (counted-on at before n c r p) t.1)
      (λ t.
      guard-then (ltb stop r.next) 18 _ k t.1 λ u v.
      let is : keyed r (key_of d before r) ≡ k = ok-inj v in
      let here : ended_by d g r.start ≡ n = ap (ended_by d g) (row_in-ends d g at (length before) r p).starts ∙ counted-here at before n c in
      rw (← is, here) (counted_next at before n c r p))
      (cond-ok (ltb r.next stop) _ _ k q)

  -- a walk stops where it has counted
  counted-walk : (target : Key) (left at : ℕ) (before : Key) (n : ℕ) (s : Stop) → Counted d g at before n → walk_region left d g target at before ≡ ok s
      → (m : ℕ) × Counted d g s.at s.before m
  unfolding walk_region
  counted-walk target zero at before n s c e = let is : stop_is at before ≡ s = ok-inj e in rw (← is) (n, c)
  counted-walk target (suc left) at before n s c e =
      ⊎_elim
      (λ t.
      bind-then (row_in d g at (length before)) _ s t.1 λ r p q.
      ⊎_elim
      (λ u. counted-walk target left r.next (key_of d before r) (n + 1) s (counted-on at before n c r p) u.1)
      (λ u. let is : stop_is at before ≡ s = ok-inj u.1 in rw (← is) (n, c))
      (cond-ok (below (key_of d before r) target) _ _ s q))
      (λ t. let is : stop_is at before ≡ s = ok-inj t.1 in rw (← is) (n, c))
      (cond-ok (ltb at g.end) _ _ s e)

-- ---- in a region of a block

module _ (b : List ℕ) (t : Trailer) (region : ℕ) (g : Region) (u : region_of b t region ≡ ok g) where
  pub counted_true : (at : ℕ) (before : Key) (n : ℕ) → Counted (data_of b t) g at before n → number_at b t region at ≡ n
  counted_true at before n c = number_in b t region at g u ∙ counted-here (data_of b t) g at before n c

  -- at a region's start no row is passed
  pub none_passed : number_at b t region g.start ≡ 0
  none_passed = counted_true g.start [] 0 (counted_start (data_of b t) g)

  -- where an ascending seek stops the number is true
  pub counted_stop : (target : Key) (left : ℕ) (s : Stop) → walk_region left (data_of b t) g target g.start [] ≡ ok s → Counted (data_of b t) g s.at s.before (number_at b t region s.at)
  counted_stop target left s e =
      let c = counted-walk (data_of b t) g target left g.start [] 0 s (counted_start (data_of b t) g) e in
      rw (counted_true s.at s.before c.0 c.1) c.1

  -- the pair of a step up
  pub names_up : region < t.count → (at : ℕ) (before : Key) (n : ℕ) (r : RowRead) → Counted (data_of b t) g at before n → row_in (data_of b t) g at (length before) ≡ ok r
      → Names b t region n (keyed r (key_of (data_of b t) before r))
  names_up h at before n r c e = record { g = g; inside = h; used = u; is = counted_next (data_of b t) g at before n c r e }

  -- and of a step back, whatever the cursor
  pub names_back : region < t.count → (left stop : ℕ) (k : Keyed) → row_ending_at left (data_of b t) g stop g.start [] ≡ ok k → Names b t region (number_at b t region k.row.start) k
  names_back h left stop k e =
      record { g = g; inside = h; used = u; is = rw (number_in b t region k.row.start g u) (counted_back (data_of b t) g left stop g.start [] 0 k (counted_start (data_of b t) g) e) }
