-- The check accepts a block exactly when trailer and offsets are good, rows cover the data with one starting at each restart, and each may follow the one before; and
-- then it answers how many rows there are. Both directions go along the check's own fold, region by region; of rows that are read it tells no more than their order.
use Prim.Native.Nat.{ℕ, zero, suc, ◌+◌, ◌-◌, ◌<◌, ◌≤◌}
use Rattle.std.specs.Prelude.{◌≡◌, Bool, true, false, cond, not, List, [], ◌∷◌, ◌++◌, ◌⊎◌, ltb, length}
use Rattle.std.proofs.Math.Path.{refl, ap, sym}
use Rattle.std.proofs.Common.{◌∙◌, ⊎_elim, inl, inr, arith, add-one, zero-add}
use Rattle.std.proofs.lemmas.List.{length-map}
use borrow.Author.Tests.{lt-ltb, le-ltb, eq-eqb, not-false}
use Rattle.layout.specs.Res.{Res, ok, refuse, bind, guard}
use Rattle.layout.specs.Key.{Key, Rank, rank_is, no_rank, may_follow, Rising}
use Rattle.layout.specs.RowRead.{RowRead, read_row, row_at, head_at, key_of}
use Rattle.layout.specs.Trailer.{Trailer, trailer_of, data_of, Region, region_of, all_offsets, row_in}
use Rattle.layout.specs.Check.{Passed, passed_is, read_rank, passed_row, check_row, check_from, check}
use Rattle.layout.specs.Cursor.{Keyed, keyed}
use Rattle.demands.specs.Reads.{region_rows, regions_rows, Reads, all_rows, ranks_of, verdict, Accepts}
use Rattle.layout.proofs.Laws.Res.{bind-then, guard-then, ok-inj, ltb-cases, bool_cases}
use Rattle.layout.specs.Laws.Trailer.{OffsetsTell}
use Rattle.layout.proofs.Laws.Trailer.{region_of-tells, trailer_of-tells, all_offsets-tell, region-good}
use Rattle.layout.proofs.Laws.Tells.{read_row-ends, row_in-ends}
use Rattle.demands.specs.Laws.Reads.{region-at, region-cons, region-over, region-more, RegionsAre, next as next-region, regions-are, regions-cons, all_rows-none, all_rows-next}

-- at a restart the key before is not used: neither its length nor its bytes
restart-read : (d : List ℕ) (at end m n : ℕ) → read_row d at end m true ≡ read_row d at end n true
unfolding read_row row_at head_at
restart-read d at end m n = refl

restart-key : (d : List ℕ) (at end n : ℕ) (before other : Key) (r : RowRead) → read_row d at end n true ≡ ok r → key_of d before r ≡ key_of d other r
restart-key d at end n before other r e =
    let s : r.shared ≤ 0 = (read_row-ends d at end n true r e).shares in
    let z : r.shared ≡ 0 = omega arith in
    rw z

-- ---- where the fold stands: at a place of a region, or at the start of one

-- the place of the fold, after the key of the row before, and the key that the region carries there: none at its start
pub record Stands (b : List ℕ) (t : Trailer) (g : Region) (at region : ℕ) (before carried : Key) : Type 0 where
  pub used : region_of b t region ≡ ok g
  pub inside : region < t.count
  pub low : g.start ≤ at
  pub high : at < g.end
  pub carries : (at ≡ g.start) ⊎ (before ≡ carried)

-- the read of the next row does not tell the two apart
same_row : (b : List ℕ) (t : Trailer) (g : Region) (at region : ℕ) (before carried : Key) → Stands b t g at region before carried
    → row_in (data_of b t) g at (length before) ≡ row_in (data_of b t) g at (length carried)
same_row b t g at region before carried s =
    ⊎_elim (λ e. rw (eq-eqb at g.start e) (restart-read (data_of b t) at g.end (length before) (length carried))) (λ e. rw e) s.carries

same_key : (b : List ℕ) (t : Trailer) (g : Region) (at region : ℕ) (before carried : Key) (r : RowRead) → Stands b t g at region before carried
    → row_in (data_of b t) g at (length carried) ≡ ok r → key_of (data_of b t) before r ≡ key_of (data_of b t) carried r
same_key b t g at region before carried r s e =
    ⊎_elim (λ q. restart-key (data_of b t) at g.end (length carried) before carried r (ap (read_row (data_of b t) at g.end (length carried)) (sym (eq-eqb at g.start q)) ∙ e)) (λ q. rw q)
    s.carries

-- past a row, the fold stands in the same region, at the start of the next, or at the data's end
pub data Next (b : List ℕ) (t : Trailer) (g : Region) (at region : ℕ) (key : Key) : ℕ → Type 0 where
  stay : Stands b t g at region key key → Next b t g at region key region
  enter : (h : Region) → at ≡ g.end → at ≡ h.start → Stands b t h at (region + 1) key [] → Next b t g at region key (region + 1)
  end : at ≡ g.end → t.size ≤ at → t.count ≤ region + 1 → Next b t g at region key (region + 1)

pub past_row_lem : (b : List ℕ) (t : Trailer) (offs : OffsetsTell b t) (g : Region) (at region : ℕ) (before carried : Key) (r : RowRead) (key : Key) → Stands b t g at region before carried
    → row_in (data_of b t) g at (length carried) ≡ ok r → Next b t g r.next region key (cond (ltb r.next g.end) region (region + 1))
past_row_lem b t offs g at region before carried r key s e =
    let w = row_in-ends (data_of b t) g at (length carried) r e in
    let tells = region_of-tells b t region g s.used in
    ⊎_elim
    (λ c.
    rw c.0
    (stay (record { used = s.used; inside = s.inside; low = omega (arith, s.low, w.least); high = c.1; carries = inr refl })))
    (λ c.
    let at-end : r.next ≡ g.end = omega (arith, c.1, w.within) in
    rw c.0
    (⊎_elim
    (λ f.
    let q = region-good b t offs (region + 1) f.1 in
    let inner = tells.inner f.1 in
    let next-tells = region_of-tells b t (region + 1) q.0 q.1 in
    let here : r.next ≡ q.0.start = at-end ∙ inner.0 ∙ sym next-tells.from in
    enter q.0 at-end here
    (record { used = q.1; inside = f.1; low = omega arith; high = omega (arith, next-tells.rises); carries = inl here }))
    (λ f. end at-end (omega (arith, (tells.last f.1).0)) f.1)
    (ltb-cases (region + 1) t.count)))
    (ltb-cases r.next g.end)

pub verdict-none : (before : Rank) (rows : ℕ) → verdict before [] rows ≡ ok rows
unfolding verdict
verdict-none before rows = refl

pub verdict-next : (before r : Rank) (rs : List Rank) (rows : ℕ) → verdict before (r ∷ rs) rows ≡ guard (not (may_follow before r)) 17 (verdict r rs (rows + 1))
unfolding verdict
verdict-next before r rs rows = refl

-- a refusal before what follows, on both sides
pub after-guard : {A B : Type 0} (t : Bool) (a : A) (f : A → Res B) (x : Res B) → f a ≡ x → bind (guard t 17 (ok a)) f ≡ guard t 17 x
after-guard true a f x e = refl
after-guard false a f x e = e

-- ---- what is left of the block, from where the fold stands

pub record Covers (b : List ℕ) (t : Trailer) (g : Region) (at region : ℕ) (before : Rank) (carried : Key) (rows total : ℕ) : Type 0 where
  pub here : List Keyed
  pub rest : List (List Keyed)
  pub rows-here : region_rows t.size (data_of b t) g at carried ≡ ok here
  pub rows_then : regions_rows (t.count - suc region) b t (suc region) ≡ ok rest
  pub in_order : Rising before (ranks_of (here ++ all_rows rest))
  pub many : total ≡ rows + length (here ++ all_rows rest)

module _ (b : List ℕ) (t : Trailer) (offs : OffsetsTell b t) where
  -- the row r, then what follows it
  pub first-here : (g : Region) (at region : ℕ) (before carried : Key) (r : RowRead) (key : Key) (ks : List Keyed) → Stands b t g at region before carried
      → row_in (data_of b t) g at (length carried) ≡ ok r → key_of (data_of b t) carried r ≡ key → region_rows t.size (data_of b t) g r.next key ≡ ok ks
      → region_rows t.size (data_of b t) g at carried ≡ ok (keyed r key ∷ ks)
  first-here g at region before carried r key ks s e k p =
      let w = row_in-ends (data_of b t) g at (length carried) r e in
      let tells = region_of-tells b t region g s.used in
      region-more t.size (suc t.size) (data_of b t) g at carried (omega (arith, tells.inside)) (omega (arith, tells.inside))
      ∙ region-cons t.size (data_of b t) g at carried r ks s.high e (ap (region_rows t.size (data_of b t) g r.next) k ∙ p)
      ∙ ap (λ (x : Key). ok (keyed r x ∷ ks)) k

  pub no_more : (region : ℕ) → t.count ≤ region + 1 → regions_rows (t.count - suc region) b t (suc region) ≡ ok []
  no_more region h = go (t.count - suc region) (omega arith)
    where
      go : (n : ℕ) → n ≡ 0 → regions_rows n b t (suc region) ≡ ok []
      go zero z = unfold regions_rows in refl
      go (suc n) z = absurd (omega arith)

  pub one_more : (region : ℕ) (h : Region) (here : List Keyed) (rest : List (List Keyed)) → region + 1 < t.count → region_of b t (region + 1) ≡ ok h
      → region_rows t.size (data_of b t) h h.start [] ≡ ok here → regions_rows (t.count - suc (region + 1)) b t (suc (region + 1)) ≡ ok rest
      → regions_rows (t.count - suc region) b t (suc region) ≡ ok (here ∷ rest)
  one_more region h here rest f u p q =
      let n : t.count - suc region ≡ suc (t.count - suc (region + 1)) = omega arith in
      rw n
      (regions-cons (t.count - suc (region + 1)) b t (suc region) h here rest (rw (add-one region) at u) p
      (ap (regions_rows (t.count - suc (region + 1)) b t) (ap suc (sym (add-one region))) ∙ q))

  -- one step of the fold
  checked-row : (g : Region) (at region rows : ℕ) (before : Rank) (carried : Key) (q : Passed) → Stands b t g at region before.key carried → check_row b t (passed_is at region before rows) ≡ ok q
      → {A : Type 0}
      → ((r : RowRead) → row_in (data_of b t) g at (length carried) ≡ ok r → may_follow before (read_rank (data_of b t) carried r) ≡ true
      → passed_is r.next (cond (ltb r.next g.end) region (region + 1)) (read_rank (data_of b t) carried r) (rows + 1) ≡ q → A) → A
  unfolding check_row
  checked-row g at region rows before carried q s e k =
      bind-then (region_of b t region) _ q e λ h u e₁.
      let same : g ≡ h = ok-inj (sym s.used ∙ u) in
      bind-then (row_in (data_of b t) h at (length before.key)) _ q e₁ λ r p e₂.
      guard-then (not (may_follow before (read_rank (data_of b t) before.key r))) 17 _ q e₂ λ m e₃.
      let p' : row_in (data_of b t) g at (length before.key) ≡ ok r = rw same p in
      let p'' = sym (same_row b t g at region before.key carried s) ∙ p' in
      let key = same_key b t g at region before.key carried r s p'' in
      let w : passed_row (data_of b t) (passed_is at region before rows) h r ≡ q = ok-inj e₃ in
      k r p'' (ap (λ (x : Key). may_follow before (rank_is x r.seq)) (sym key) ∙ not-false (may_follow before (read_rank (data_of b t) before.key r)) m)
      (ap (λ (x : Key). passed_is r.next (cond (ltb r.next g.end) region (region + 1)) (rank_is x r.seq) (rows + 1)) (sym key)
      ∙ ap (λ (x : Region). passed_row (data_of b t) (passed_is at region before rows) x r) same ∙ w)

  step_from : (left at region rows : ℕ) (before : Rank) → at < t.size
      → check_from (suc left) b t (passed_is at region before rows) ≡ bind (check_row b t (passed_is at region before rows)) (λ q. check_from left b t q)
  unfolding check_from
  step_from left at region rows before h = rw (lt-ltb at t.size h)

  over-from : (left at region rows : ℕ) (before : Rank) → t.size ≤ at → check_from left b t (passed_is at region before rows) ≡ ok rows
  unfolding check_from
  over-from zero at region rows before h = refl
  over-from (suc left) at region rows before h = rw (le-ltb at t.size h)

  pub accepted_covers : (left : ℕ) (g : Region) (at region rows : ℕ) (before : Rank) (carried : Key) (total : ℕ) → Stands b t g at region before.key carried → t.size ≤ at + left
      → check_from left b t (passed_is at region before rows) ≡ ok total → Covers b t g at region before carried rows total
  accepted_covers zero g at region rows before carried total s h e = absurd (omega (arith, s.high, (region_of-tells b t region g s.used).inside))
  accepted_covers (suc left) g at region rows before carried total s h e =
      bind-then (check_row b t (passed_is at region before rows)) _ total (sym (step_from left at region rows before (omega (arith, s.high, size))) ∙ e) λ q p e₁.
      checked-row g at region rows before carried q s p λ r u m is.
      go r u m (cond (ltb r.next g.end) region (region + 1)) (ap (check_from left b t) is ∙ e₁) (past_row_lem b t offs g at region before.key carried r (key_of (data_of b t) carried r) s u)
      (accepted_covers left)
    where
      size : g.end ≤ t.size
      size = (region_of-tells b t region g s.used).inside

      go : (r : RowRead) → row_in (data_of b t) g at (length carried) ≡ ok r → may_follow before (read_rank (data_of b t) carried r) ≡ true
          → (region' : ℕ) → check_from left b t (passed_is r.next region' (read_rank (data_of b t) carried r) (rows + 1)) ≡ ok total
          → Next b t g r.next region (key_of (data_of b t) carried r) region'
          → ((g : Region) (at region rows : ℕ) (before : Rank) (carried : Key) (total : ℕ) → Stands b t g at region before.key carried → t.size ≤ at + left
          → check_from left b t (passed_is at region before rows) ≡ ok total → Covers b t g at region before carried rows total)
          → Covers b t g at region before carried rows total
      go r u m region' e (stay s') ih =
          let on = (row_in-ends (data_of b t) g at (length carried) r u).least in
          let key : Key = key_of (data_of b t) carried r in
          let c = ih g r.next region (rows + 1) (read_rank (data_of b t) carried r) (key_of (data_of b t) carried r) total s' (omega arith) e in
          record {
            here = keyed r (key_of (data_of b t) carried r) ∷ c.here;
            rest = c.rest;
            rows-here = first-here g at region before.key carried r (key_of (data_of b t) carried r) c.here s u refl c.rows-here;
            rows_then = c.rows_then;
            in_order = (m, c.in_order);
            many = omega (arith, c.many);
          }
      go r u m region' e (enter f at-end here s') ih =
          let on = (row_in-ends (data_of b t) g at (length carried) r u).least in
          let c = ih f r.next (region + 1) (rows + 1) (read_rank (data_of b t) carried r) [] total s' (omega arith) e in
          let rows_next : region_rows t.size (data_of b t) f f.start [] ≡ ok c.here = ap (λ (n : ℕ). region_rows t.size (data_of b t) f n []) (sym here) ∙ c.rows-here in
          record {
            here = keyed r (key_of (data_of b t) carried r) ∷ [];
            rest = c.here ∷ c.rest;
            rows-here = first-here g at region before.key carried r (key_of (data_of b t) carried r) [] s u refl (region-over t.size (data_of b t) g r.next (key_of (data_of b t) carried r) (omega arith));
            rows_then = one_more region f c.here c.rest s'.inside s'.used rows_next c.rows_then;
            in_order = (m, rw (all_rows-next c.here c.rest) c.in_order);
            many = rw (all_rows-next c.here c.rest) (omega (arith, c.many));
          }
      go r u m region' e (end at-end over last) ih =
          let one : ok (rows + 1) ≡ ok total = sym (over-from left r.next (region + 1) (rows + 1) (read_rank (data_of b t) carried r) over) ∙ e in
          record {
            here = keyed r (key_of (data_of b t) carried r) ∷ [];
            rest = [];
            rows-here = first-here g at region before.key carried r (key_of (data_of b t) carried r) [] s u refl (region-over t.size (data_of b t) g r.next (key_of (data_of b t) carried r) (omega arith));
            rows_then = no_more region last;
            in_order = rw all_rows-none (m, tt);
            many = rw all_rows-none (sym (ok-inj one));
          }

  -- and back: of rows that are read the check tells no more than whether each may follow the one before
  judges_row : (g : Region) (at region rows : ℕ) (before : Rank) (carried : Key) (r : RowRead) → Stands b t g at region before.key carried
      → row_in (data_of b t) g at (length carried) ≡ ok r
      → check_row b t (passed_is at region before rows)
      ≡ guard (not (may_follow before (read_rank (data_of b t) carried r))) 17 (ok (passed_is r.next (cond (ltb r.next g.end) region (region + 1)) (read_rank (data_of b t) carried r) (rows + 1)))
  unfolding check_row
  judges_row g at region rows before carried r s u =
      rw (s.used, same_row b t g at region before.key carried s, u, same_key b t g at region before.key carried r s u)

  pub covers_verdict : (left : ℕ) (g : Region) (at region rows : ℕ) (before : Rank) (carried : Key) (here : List Keyed) (rest : List (List Keyed)) → Stands b t g at region before.key carried
      → t.size ≤ at + left → region_rows t.size (data_of b t) g at carried ≡ ok here → regions_rows (t.count - suc region) b t (suc region) ≡ ok rest
      → check_from left b t (passed_is at region before rows) ≡ verdict before (ranks_of (here ++ all_rows rest)) rows
  covers_verdict zero g at region rows before carried here rest s h p q = absurd (omega (arith, s.high, (region_of-tells b t region g s.used).inside))
  covers_verdict (suc left) g at region rows before carried here rest s h p q =
      region-at t.size (data_of b t) g at carried here p (omega (arith, size))
      (λ over none. absurd (omega (arith, s.high)))
      (λ r ks m lt u more enough is.
      let w = row_in-ends (data_of b t) g at (length carried) r u in
      let more' : region_rows t.size (data_of b t) g r.next (key_of (data_of b t) carried r) ≡ ok ks =
      region-more t.size m (data_of b t) g r.next (key_of (data_of b t) carried r) (omega (arith, size)) enough ∙ more in
      step_from left at region rows before (omega (arith, s.high, size))
      ∙ rw (judges_row g at region rows before carried r s u, is)
      (after-guard (not (may_follow before (read_rank (data_of b t) carried r))) _ _ _
      (go r ks w.least more' (cond (ltb r.next g.end) region (region + 1)) (past_row_lem b t offs g at region before.key carried r (key_of (data_of b t) carried r) s u) (covers_verdict left))
      ∙ sym (verdict-next before (read_rank (data_of b t) carried r) (ranks_of (ks ++ all_rows rest)) rows)))
    where
      size : g.end ≤ t.size
      size = (region_of-tells b t region g s.used).inside

      go : (r : RowRead) (ks : List Keyed) → at + 12 ≤ r.next → region_rows t.size (data_of b t) g r.next (key_of (data_of b t) carried r) ≡ ok ks
          → (region' : ℕ) → Next b t g r.next region (key_of (data_of b t) carried r) region'
          → ((g : Region) (at region rows : ℕ) (before : Rank) (carried : Key) (here : List Keyed) (rest : List (List Keyed)) → Stands b t g at region before.key carried → t.size ≤ at + left
          → region_rows t.size (data_of b t) g at carried ≡ ok here → regions_rows (t.count - suc region) b t (suc region) ≡ ok rest
          → check_from left b t (passed_is at region before rows) ≡ verdict before (ranks_of (here ++ all_rows rest)) rows)
          → check_from left b t (passed_is r.next region' (read_rank (data_of b t) carried r) (rows + 1)) ≡ verdict (read_rank (data_of b t) carried r) (ranks_of (ks ++ all_rows rest)) (rows + 1)
      go r ks on more region' (stay s') ih =
          ih g r.next region (rows + 1) (read_rank (data_of b t) carried r) (key_of (data_of b t) carried r) ks rest s' (omega arith) more q
      go r ks on more region' (enter f at-end start s') ih =
          entered (t.count - suc region) (omega (arith, s'.inside)) q
        where
          entered : (n : ℕ) → n ≡ t.count - suc region → regions_rows n b t (suc region) ≡ ok rest
              → check_from left b t (passed_is r.next (region + 1) (read_rank (data_of b t) carried r) (rows + 1)) ≡ verdict (read_rank (data_of b t) carried r) (ranks_of (ks ++ all_rows rest)) (rows + 1)
          entered zero z q = absurd (omega (arith, s'.inside))
          entered (suc n) z q = made rest (regions-are n b t (suc region) rest q)
            where
              none : ks ≡ []
              none = ok-inj (sym more ∙ region-over t.size (data_of b t) g r.next (key_of (data_of b t) carried r) (omega arith))

              made : (rest : List (List Keyed)) → RegionsAre n b t (suc region) rest
                  → check_from left b t (passed_is r.next (region + 1) (read_rank (data_of b t) carried r) (rows + 1)) ≡ verdict (read_rank (data_of b t) carried r) (ranks_of (ks ++ all_rows rest)) (rows + 1)
              made rest (next-region e here more' u p w) =
                  let same : e ≡ f = ok-inj (sym u ∙ ap (region_of b t) (sym (add-one region)) ∙ s'.used) in
                  let p' : region_rows t.size (data_of b t) f r.next [] ≡ ok here = rw (start, ← same) p in
                  let m : n ≡ t.count - suc (region + 1) = omega arith in
                  let w' : regions_rows (t.count - suc (region + 1)) b t (suc (region + 1)) ≡ ok more' = rw (← m, add-one region) w in
                  rw (none, all_rows-next here more') (ih f r.next (region + 1) (rows + 1) (read_rank (data_of b t) carried r) [] here more' s' (omega arith) p' w')
      go r ks on more region' (end at-end over last) ih =
          let none : ks ≡ [] = ok-inj (sym more ∙ region-over t.size (data_of b t) g r.next (key_of (data_of b t) carried r) (omega arith)) in
          let no-rest : rest ≡ [] = ok-inj (sym q ∙ no_more region last) in
          over-from left r.next (region + 1) (rows + 1) (read_rank (data_of b t) carried r) over ∙ rw (none, no-rest, all_rows-none) (sym (verdict-none _ _))

-- ---- the check, exactly

start-stands : (b : List ℕ) (t : Trailer) → OffsetsTell b t → 1 ≤ t.count → (g : Region) × (region_of b t 0 ≡ ok g) × (g.start ≡ 0) × Stands b t g 0 0 [] []
start-stands b t o h =
    let q = region-good b t o 0 h in
    let tells = region_of-tells b t 0 q.0 q.1 in
    let z : q.0.start ≡ 0 = tells.from ∙ o.first in
    (q.0, q.1, z, record { used = q.1; inside = h; low = omega arith; high = omega (arith, tells.rises); carries = inr refl })

pub check_accepts : (b : List ℕ) (n : ℕ) → check b ≡ ok n → Accepts b n
unfolding check
check_accepts b n e =
    bind-then (trailer_of b) _ n e λ t p e₁.
    bind-then (all_offsets b t) _ n e₁ λ u q e₂.
    let offs = all_offsets-tell b t u q in
    let some = (trailer_of-tells b t p).1 in
    let s = start-stands b t offs some in
    let c = accepted_covers b t offs t.size s.0 0 0 0 no_rank [] n s.3 (omega arith) e₂ in
    made t p q s.0 s.1 s.2 some c
  where
    made : (t : Trailer) {u : Unit {0}} → trailer_of b ≡ ok t → all_offsets b t ≡ ok u → (g : Region) → region_of b t 0 ≡ ok g → g.start ≡ 0 → 1 ≤ t.count → Covers b t g 0 0 no_rank [] 0 n → Accepts b n
    made t p q g used z some c =
        let first : region_rows t.size (data_of b t) g g.start [] ≡ ok c.here = ap (λ (k : ℕ). region_rows t.size (data_of b t) g k []) z ∙ c.rows-here in
        let m : t.count ≡ suc (t.count - 1) = omega arith in
        record {
          t = t;
          regions = c.here ∷ c.rest;
          reads =
              record {
                trailer-good = p;
                offsets-good = q;
                rows-read = ap (λ (k : ℕ). regions_rows k b t 0) m ∙ regions-cons (t.count - 1) b t 0 g c.here c.rest used first c.rows_then;
              };
          in_order = rw (all_rows-next c.here c.rest) c.in_order;
          many = rw (all_rows-next c.here c.rest) (c.many ∙ zero-add (length (c.here ++ all_rows c.rest)));
        }

-- of a block whose rows are read, the check tells no more than their order
pub check-verdict : (b : List ℕ) (t : Trailer) (regions : List (List Keyed)) → Reads b t regions → check b ≡ verdict no_rank (ranks_of (all_rows regions)) 0
unfolding check
check-verdict b t regions reads =
    let offs = all_offsets-tell b t tt reads.offsets-good in
    let some = (trailer_of-tells b t reads.trailer-good).1 in
    let s = start-stands b t offs some in
    rw (reads.trailer-good, reads.offsets-good) (go offs s.0 s.1 s.2 s.3 t.count refl some reads.rows-read)
  where
    go : OffsetsTell b t → (g : Region) → region_of b t 0 ≡ ok g → g.start ≡ 0 → Stands b t g 0 0 [] [] → (m : ℕ) → m ≡ t.count → 1 ≤ t.count
        → regions_rows m b t 0 ≡ ok regions → check_from t.size b t (passed_is 0 0 no_rank 0) ≡ verdict no_rank (ranks_of (all_rows regions)) 0
    go offs g used z s zero e some p = absurd (omega arith)
    go offs g used z s (suc m) e some p = made regions (regions-are m b t 0 regions p)
      where
        made : (rss : List (List Keyed)) → RegionsAre m b t 0 rss → check_from t.size b t (passed_is 0 0 no_rank 0) ≡ verdict no_rank (ranks_of (all_rows rss)) 0
        made rss (next-region f here rest u p w) =
            let same : f ≡ g = ok-inj (sym u ∙ used) in
            let p' : region_rows t.size (data_of b t) g 0 [] ≡ ok here =
            ap (λ (k : ℕ). region_rows t.size (data_of b t) g k []) (sym z) ∙ ap (λ (x : Region). region_rows t.size (data_of b t) x x.start []) (sym same) ∙ p in
            let k : m ≡ t.count - 1 = omega arith in
            rw (all_rows-next here rest) (covers_verdict b t offs t.size g 0 0 0 no_rank [] here rest s (omega arith) p' (rw (← k) w))

-- rows in order are counted
pub verdict-rising : (before : Rank) (rs : List Rank) (rows : ℕ) → Rising before rs → verdict before rs rows ≡ ok (rows + length rs)
verdict-rising before [] rows o = verdict-none before rows ∙ ap ok (omega arith)
verdict-rising before (r ∷ rs) rows o = rw (verdict-next before r rs rows, o.0) (verdict-rising r rs (rows + 1) o.1 ∙ ap ok (omega arith))

-- and any others are refused with 17
pub verdict-falling : (before : Rank) (rs : List Rank) (rows : ℕ) → (Rising before rs → ⊥) → verdict before rs rows ≡ refuse 17
verdict-falling before [] rows o = absurd (o tt)
verdict-falling before (r ∷ rs) rows o =
    verdict-next before r rs rows ∙ ⊎_elim (λ y. rw y (verdict-falling r rs (rows + 1) (λ q. o (y, q)))) (λ n. rw n) (bool_cases (may_follow before r))

pub accepts_check : (b : List ℕ) (n : ℕ) → Accepts b n → check b ≡ ok n
accepts_check b n a =
    check-verdict b a.t a.regions a.reads
    ∙ verdict-rising no_rank (ranks_of (all_rows a.regions)) 0 a.in_order
    ∙ ap ok (zero-add (length (ranks_of (all_rows a.regions))) ∙ length-map (all_rows a.regions) (λ (k : Keyed). rank_is k.key k.row.seq) ∙ sym a.many)
