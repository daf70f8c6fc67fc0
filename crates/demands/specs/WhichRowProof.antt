-- A cursor's number is true after opening and after any calls, on any block; so a step's pair names its row. By what holds of each such cursor (`Counts`): its region is there, its number is how many
-- rows of it end at or before its position, and one that is to go up has read so many rows, with the last one's key (`Counted`). Opening, a hand-over and each seek begin so, and a row that is
-- passed goes on so; a step back, and a mark, ask nothing of the number before.
use Prim.Native.Nat.{ℕ, zero, suc, ◌+◌, ◌-◌, ◌<◌, ◌≤◌}
use Rattle.std.proofs.Math.Path.{◌≡◌}
use Rattle.std.specs.Prelude.{refl, true, ltb, length}
use Rattle.std.proofs.Common.{ap, sym, ◌∙◌, arith}
use Rattle.std.proofs.Math.Bool.{false}
use mathlib.Core.List.{List, [], ◌∷◌}
use Rattle.std.proofs.Math.Logic.{⊎_elim}
use Rattle.layout.specs.Res.{Res, ok, refuse, bind}
use Rattle.layout.specs.Key.{Key}
use Rattle.layout.specs.RowRead.{RowRead, key_of}
use Rattle.layout.specs.Trailer.{Trailer, trailer_of, data_of, Region, region_of, all_offsets, row_in}
use Rattle.layout.specs.Number.{ended_from, ended_by, number_at}
use Rattle.layout.specs.Cursor.{Direction, ascending, descending, Cursor, cursor_is, cursor_at, keyed, Answer, found, done, Step, past_row, opened_up, opened_down, open_along, open_block, row_ending_at, next, cursor_after}
use Rattle.layout.specs.Seek.{Stop, walk_region, walk_up, seek_up, start_down, last_at_or_below, done_up, done_down, walk_down, seek_down, search_restarts, Sought, sought_is, seek_along, seek, sought_after}
use Rattle.demands.specs.Reads.{Names}
use Rattle.demands.specs.Pairs.{CursorCall, step, seek-to, after_call, cursor_run, Reached}
use Rattle.layout.proofs.Laws.Res.{bind-then, cond-ok, ok-inj, ltb-cases}
use Rattle.layout.specs.Laws.Trailer.{RegionTells, OffsetsTell}
use Rattle.layout.proofs.Laws.Trailer.{trailer_of-tells, region_of-tells, all_offsets-tell}
use Rattle.layout.proofs.Laws.Restart.{search-inside, start-inside}
use Rattle.layout.proofs.Laws.Tells.{row_in-ends}
use Rattle.layout.specs.Laws.Step.{Stepped, stays, ends, goes-up, goes_back, UsedIn}
use Rattle.layout.proofs.Laws.Step.{next-tells}
use Rattle.demands.specs.Laws.Counted.{Counted, counted_start, counted-on, counted_true, counted_stop, names_up, names_back}

-- the pair of an answer names the row that came with it
abbrev pub NamesIts : List ℕ → Trailer → Answer → Type 0
NamesIts b t (found region number r key) = Names b t region number (keyed r key)
NamesIts b t done = Unit {0}

-- ---- what holds of a cursor

-- one that goes up has read the rows that it counts, wherever its region may be used
record Ahead (b : List ℕ) (t : Trailer) (c : Cursor) : Type 0 where
  whole : length c.key ≡ c.key_len
  counted : (g : Region) → region_of b t c.region ≡ ok g → Counted (data_of b t) g c.at c.key c.number

pub record Counts (b : List ℕ) (t : Trailer) (c : Cursor) : Type 0 where
  pub inside : c.region < t.count
  pub is : c.number ≡ number_at b t c.region c.at
  ahead : c.done ≡ false → c.order ≡ ascending → Ahead b t c

module _ (b : List ℕ) (t : Trailer) where
  no_rows : (region at : ℕ) → ((g : Region) → region_of b t region ≡ ok g → number_at b t region at ≡ 0) → number_at b t region at ≡ 0
  no_rows region at h = go (region_of b t region) refl
    where
      go : (x : Res Region) → region_of b t region ≡ x → number_at b t region at ≡ 0
      go (ok g) e = h g e
      go (refuse n) e = unfold number_at in rw e

  -- at a region's start, before its first row
  starts_true : (region at : ℕ) → region < t.count → ((g : Region) → region_of b t region ≡ ok g → g.start ≡ at) → Counts b t (cursor_is ascending region at 0 [] false)
  starts_true region at h s =
      record {
        inside = h;
        is = sym (no_rows region at λ g e. counted_true b t region g e at [] 0 (begun g e));
        ahead = λ _ _. record { whole = refl; counted = begun };
      }
    where
      begun : (g : Region) → region_of b t region ≡ ok g → Counted (data_of b t) g at [] 0
      begun g e = rw (← s g e) (counted_start (data_of b t) g)

  -- a number that is made by counting, on a cursor that is marked or goes down
  marked_true : (d : Direction) (region at : ℕ) (key : Key) → region < t.count → Counts b t (cursor_at b t d region at key true)
  marked_true d region at key h = record { inside = h; is = refl; ahead = λ m _. absurd (let z : ◌≡◌ {A = ℕ} 0 1 = cc in omega arith) }

  -- ---- opening

  opened-along : (d : Direction) (c : Cursor) → 1 ≤ t.count → all_offsets b t ≡ ok tt → open_along d b t ≡ ok c → Counts b t c
  unfolding open_along
  opened-along ascending c h o e =
      let is : opened_up ≡ c = ok-inj e in
      rw (← is) (starts_true 0 0 h λ g u. (region_of-tells b t 0 g u).from ∙ (all_offsets-tell b t tt o).first)
  opened-along descending c h o e =
      bind-then (region_of b t (t.count - 1)) _ c e λ g _ e₁.
      bind-then (row_ending_at t.size (data_of b t) g t.size g.start []) _ c e₁ λ _ _ e₂.
      let is : opened_down b t ≡ c = ok-inj e₂ in
      rw (← is) (record { inside = omega arith; is = refl; ahead = λ _ o. absurd (let z : ◌≡◌ {A = ℕ} 0 1 = cc in omega arith) })

  -- ---- a seek

  up_true : (target : Key) (left region : ℕ) (c : Cursor) → 1 ≤ t.count → (0 < left → region + left ≤ t.count) → walk_up left b t target region ≡ ok c → Counts b t c
  unfolding walk_up
  up_true target zero region c some h e = let is : done_up b t ≡ c = ok-inj e in rw (← is) (marked_true ascending (t.count - 1) t.size [] (omega arith))
  up_true target (suc left) region c some h e =
      bind-then (region_of b t region) _ c e λ g u e₁.
      bind-then (walk_region t.size (data_of b t) g target g.start []) _ c e₁ λ s w e₂.
      ⊎_elim
      (λ v.
      let is : cursor_at b t ascending region s.at s.before false ≡ c = ok-inj v.1 in
      let here : region < t.count = omega (arith, h (omega arith)) in
      rw (← is) (record { inside = here; is = refl; ahead = λ _ _. record { whole = refl; counted = λ g' u'. counted_stop b t region g' u' target t.size s (there g g' s u u' w) } }))
      (λ v. up_true target left (suc region) c some (λ k. omega (arith, h (omega arith))) v.1)
      (cond-ok (ltb s.at g.end) _ _ c e₂)
    where
      there : (g g' : Region) (s : Stop) → region_of b t region ≡ ok g → region_of b t region ≡ ok g' → walk_region t.size (data_of b t) g target g.start [] ≡ ok s
          → walk_region t.size (data_of b t) g' target g'.start [] ≡ ok s
      there g g' s u u' w = let same : g' ≡ g = ok-inj (sym u' ∙ u) in rw same w

  down_true : (target : Key) (left region : ℕ) (c : Cursor) → region < t.count → walk_down left b t target region ≡ ok c → Counts b t c
  unfolding walk_down
  down_true target zero region c h e = let is : done_down ≡ c = ok-inj e in rw (← is) done_true
    where
      none : (g : Region) → region_of b t 0 ≡ ok g → number_at b t 0 0 ≡ 0
      none g e = unfold number_at ended_by ended_from in rw e

      done_true : Counts b t done_down
      done_true = record { inside = omega arith; is = sym (no_rows 0 0 none); ahead = λ m _. absurd (let z : ◌≡◌ {A = ℕ} 0 1 = cc in omega arith) }
  down_true target (suc left) region c h e =
      bind-then (region_of b t region) _ c e λ g u e₁.
      bind-then (last_at_or_below t.size (data_of b t) g target g.start [] g.start) _ c e₁ λ best w e₂.
      ⊎_elim
      (λ v.
      let is : cursor_at b t descending region best [] false ≡ c = ok-inj v.1 in
      rw (← is) (record { inside = h; is = refl; ahead = λ _ o. absurd (let z : ◌≡◌ {A = ℕ} 0 1 = cc in omega arith) }))
      (λ v. down_true target left (region - 1) c (omega arith) v.1)
      (cond-ok (ltb g.start best) _ _ c e₂)

  along_true : (d : Direction) (target : Key) (place : ℕ) (c : Cursor) → 1 ≤ t.count → place ≤ t.count → seek_along d b t target place ≡ ok c → Counts b t c
  unfolding seek_up seek_down
  along_true ascending target place c some h e = up_true target (t.count - (place - 1)) (place - 1) c some (λ k. omega arith) e
  along_true descending target place c some h e =
      bind-then (start_down b t target place) _ c e λ region p e₁.
      down_true target (suc region) region c (start-inside b t target place region p h some) e₁

  module _ (good : trailer_of b ≡ ok t) where
    some : 1 ≤ t.count
    some = (trailer_of-tells b t good).1

    opened_true : (d : Direction) (c : Cursor) → open_block b d ≡ ok c → Counts b t c
    unfolding open_block
    opened_true d c e =
        let e₁ : bind (all_offsets b t) (λ _. open_along d b t) ≡ ok c = rw good at e in
        bind-then (all_offsets b t) _ c e₁ λ o p e₂.
        opened-along d c some p e₂

    pub sought_true : (d : Direction) (target : Key) (s : Sought) → seek d b target ≡ ok s → Counts b t s.cursor
    unfolding seek
    sought_true d target s e =
        bind-then (search_restarts b t target) _ s (rw good at e) λ f u e₁.
        bind-then (seek_along d b t target f.place) _ s e₁ λ c p e₂.
        let is : sought_is c f.reads ≡ s = ok-inj e₂ in
        rw (← is) (along_true d target f.place c some (search-inside b t target f u) p)

    -- ---- a step

    -- past a row
    past_true : (c : Cursor) (g : Region) (r : RowRead) → UsedIn b t c.region g → Ahead b t c → row_in (data_of b t) g c.at c.key_len ≡ ok r
        → Counts b t (past_row c g r (key_of (data_of b t) c.key r)) × NamesIts b t (found c.region c.number r (key_of (data_of b t) c.key r))
    past_true c g r u a p = (
      ⊎_elim (λ s. rw s.0 (starts_true (c.region + 1) r.next (more s.1) (handed s.1))) (λ s. rw s.0 goes_on_lem) (ltb-cases g.reach r.next),
      names_up b t c.region g u.used u.inside c.at c.key c.number r here read,
    )
      where
        here : Counted (data_of b t) g c.at c.key c.number
        here = a.counted g u.used

        read : row_in (data_of b t) g c.at (length c.key) ≡ ok r
        read = ap (λ (n : ℕ). row_in (data_of b t) g c.at n) a.whole ∙ p

        on : (g' : Region) → region_of b t c.region ≡ ok g' → Counted (data_of b t) g' r.next (key_of (data_of b t) c.key r) (c.number + 1)
        on g' u' =
            let same : g' ≡ g = ok-inj (sym u' ∙ u.used) in
            rw same (counted-on (data_of b t) g c.at c.key c.number here r read)

        goes_on_lem : Counts b t (cursor_is ascending c.region r.next (c.number + 1) (key_of (data_of b t) c.key r) false)
        goes_on_lem =
            record {
              inside = u.inside;
              is = sym (counted_true b t c.region g u.used r.next (key_of (data_of b t) c.key r) (c.number + 1) (on g u.used));
              ahead = λ _ _. record { whole = refl; counted = on };
            }

        tells : RegionTells b t c.region g
        tells = region_of-tells b t c.region g u.used

        -- the last region is never finished: its end is in reach
        more : g.reach < r.next → c.region + 1 < t.count
        more far =
            let w = (row_in-ends (data_of b t) g c.at c.key_len r p).within in
            ⊎_elim (λ s. s.1) (λ s. absurd (omega (arith, (tells.last s.1).1))) (ltb-cases (c.region + 1) t.count)

        -- the next region starts where the finished one ends
        handed : g.reach < r.next → (h : Region) → region_of b t (c.region + 1) ≡ ok h → h.start ≡ r.next
        handed far h v =
            let w = (row_in-ends (data_of b t) g c.at c.key_len r p).within in
            let e = (tells.inner (more far)).0 in
            let f = (region_of-tells b t (c.region + 1) h v).from in
            omega (arith, tells.near)

    pub step_true : (c : Cursor) (room : ℕ) (s : Step) → Counts b t c → next c b room ≡ ok s → Counts b t s.cursor × NamesIts b t s.answer
    step_true c room s n e = go s (next-tells c b room s e).how
      where
        trailer-one : (t' : Trailer) → trailer_of b ≡ ok t' → t' ≡ t
        trailer-one t' e = ok-inj (sym e ∙ good)

        go : (s : Step) → Stepped c b s → Counts b t s.cursor × NamesIts b t s.answer
        go s stays = (n, tt)
        go s ends = (record { inside = n.inside; is = n.is; ahead = λ m _. absurd (let z : ◌≡◌ {A = ℕ} 0 1 = cc in omega arith) }, tt)
        go s (goes-up t' g r u heads unmarked p) =
            let same = trailer-one t' u.trailer-good in
            let u₁ : UsedIn b t c.region g = rw same at u in
            let p₁ : row_in (data_of b t) g c.at c.key_len ≡ ok r = rw same at p in
            rw same (past_true c g r u₁ (n.ahead unmarked heads) p₁)
        go s (goes_back t' region g k u heads p) =
            let same = trailer-one t' u.trailer-good in
            let u₁ : UsedIn b t region g = rw same at u in
            let p₁ : row_ending_at c.at (data_of b t) g c.at g.start [] ≡ ok k = rw same at p in
            rw same
            (record { inside = u₁.inside; is = refl; ahead = λ _ o. absurd (let z : ◌≡◌ {A = ℕ} 0 1 = cc in omega arith) }, names_back b t region g u₁.used u₁.inside c.at c.at k p₁)

    -- ---- any calls

    call_true : (c : Cursor) (call : CursorCall) → Counts b t c → Counts b t (after_call b c call)
    call_true c (step room) n = go (next c b room) refl
      where
        go : (x : Res Step) → next c b room ≡ x → Counts b t (cursor_after x c)
        go (ok s) e = (step_true c room s n e).0
        go (refuse i) e = n
    call_true c (seek-to target) n = go (seek c.order b target) refl
      where
        go : (x : Res Sought) → seek c.order b target ≡ x → Counts b t (sought_after x c)
        go (ok s) e = sought_true c.order target s e
        go (refuse i) e = n

    run_true : (c : Cursor) (calls : List CursorCall) → Counts b t c → Counts b t (cursor_run b c calls)
    unfolding cursor_run
    run_true c [] n = n
    run_true c (call ∷ calls) n = run_true (after_call b c call) calls (call_true c call n)

    -- a block that was opened has good offsets
    pub reached-offsets : (c : Cursor) → Reached b c → OffsetsTell b t
    unfolding open_block
    reached-offsets c r = bind-then (all_offsets b t) _ r.opened (rw good at r.opens) λ o p _. all_offsets-tell b t o p

    pub reached_true : (c : Cursor) → Reached b c → Counts b t c
    reached_true c r = rw r.is (run_true r.opened r.calls (opened_true r.d r.opened r.opens))
