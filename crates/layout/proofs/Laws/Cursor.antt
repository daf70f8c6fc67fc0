-- Each way through opening, a step and `is_empty`, by what was met on it: one law for each exit of the code. And what is known of the row that a
-- step back finds.
use Rattle.std.specs.Prelude.{ℕ, zero, suc, ◌+◌, ◌-◌, ◌<◌, ◌≤◌, ◌≡◌, refl, true, false, List, [], ltb, eqb, length}
use Rattle.std.proofs.Common.{subst, ⊎_elim, le_antisymm, arith}
use borrow.Author.Tests.{lt-ltb, le-ltb, le-leb, lt-leb, eq-eqb, ne_eqb, ltb-false}
use Rattle.layout.specs.Res.{ok, refuse}
use Rattle.layout.specs.Limits.{max_key}
use Rattle.layout.specs.Key.{Key}
use Rattle.layout.specs.RowRead.{RowRead, key_length, key_of}
use Rattle.layout.specs.Trailer.{Trailer, trailer_of, data_of, Region, region_of, all_offsets, row_in}
use Rattle.layout.specs.Number.{number_at, wrong_after}
use Rattle.layout.specs.Cursor.{Direction, ascending, descending, Cursor, marked, found, done, step_is, past_row, step_up, Keyed, keyed, row_ending_at, back_past, step_back_in, step_down, next, opened_up, opened_down, open_along, open_block, exhausted, is_empty}
use Rattle.layout.proofs.Laws.Res.{bind-then, guard-then, cond-ok, ok-inj}
use Rattle.layout.proofs.Laws.Carry.{key_of-length}
use Rattle.layout.proofs.Laws.Tells.{row_in-ends}

-- ---- opening

module _ (b : List ℕ) (d : Direction) where
  pub open_trailer : {n : ℕ} → trailer_of b ≡ refuse n → open_block b d ≡ refuse n
  unfolding open_block
  open_trailer e = rw e

  module _ (t : Trailer) (e : trailer_of b ≡ ok t) where
    pub open_offsets : {n : ℕ} → all_offsets b t ≡ refuse n → open_block b d ≡ refuse n
    unfolding open_block
    open_offsets o = rw (e, o)

    module _ (o : all_offsets b t ≡ ok tt) where
      pub open_along_lem : open_block b d ≡ open_along d b t
      unfolding open_block
      open_along_lem = rw (e, o)

pub along-up : (b : List ℕ) (t : Trailer) → open_along ascending b t ≡ ok opened_up
unfolding open_along
along-up b t = refl

-- backwards
module _ (b : List ℕ) (t : Trailer) where
  pub along-region : {n : ℕ} → region_of b t (t.count - 1) ≡ refuse n → open_along descending b t ≡ refuse n
  unfolding open_along
  along-region u = rw u

  module _ (g : Region) (u : region_of b t (t.count - 1) ≡ ok g) where
    pub along-no : {n : ℕ} → row_ending_at t.size (data_of b t) g t.size g.start [] ≡ refuse n → open_along descending b t ≡ refuse n
    unfolding open_along
    along-no w = rw (u, w)

    pub along-down : (k : Keyed) → row_ending_at t.size (data_of b t) g t.size g.start [] ≡ ok k → open_along descending b t ≡ ok (opened_down b t)
    unfolding open_along
    along-down k w = rw (u, w)

-- ---- a step, before its direction matters

module _ (c : Cursor) (b : List ℕ) (room : ℕ) where
  pub next-trailer : {n : ℕ} → trailer_of b ≡ refuse n → next c b room ≡ refuse n
  unfolding next
  next-trailer e = rw e

  module _ (t : Trailer) (e : trailer_of b ≡ ok t) where
    pub next-region : t.count ≤ c.region → next c b room ≡ refuse 18
    unfolding next
    next-region h = rw (e, le-leb t.count c.region h)

    module _ (h : c.region < t.count) where
      pub next-key : max_key < c.key_len → next c b room ≡ refuse 18
      unfolding next
      next-key k = rw (e, lt-leb t.count c.region h, lt-ltb max_key c.key_len k)

      module _ (k : c.key_len ≤ max_key) where
        pub next-marked : c.done ≡ true → next c b room ≡ ok (step_is c done)
        unfolding next
        next-marked m = rw (e, lt-leb t.count c.region h, le-ltb max_key c.key_len k, m)

        pub next_up : c.done ≡ false → c.order ≡ ascending → next c b room ≡ step_up c b t room
        unfolding next
        next_up m d = rw (e, lt-leb t.count c.region h, le-ltb max_key c.key_len k, m, d)

        pub next_down : c.done ≡ false → c.order ≡ descending → next c b room ≡ step_down c b t room
        unfolding next
        next_down m d = rw (e, lt-leb t.count c.region h, le-ltb max_key c.key_len k, m, d)

-- ---- ascending

module _ (c : Cursor) (b : List ℕ) (t : Trailer) (room : ℕ) where
  pub up-region : {n : ℕ} → region_of b t c.region ≡ refuse n → step_up c b t room ≡ refuse n
  unfolding step_up
  up-region e = rw e

  module _ (g : Region) (e : region_of b t c.region ≡ ok g) where
    pub up-before : c.at < g.start → step_up c b t room ≡ refuse 18
    unfolding step_up
    up-before h = rw (e, lt-ltb c.at g.start h)

    module _ (h : g.start ≤ c.at) where
      pub up-past : g.reach < c.at → step_up c b t room ≡ refuse 18
      unfolding step_up
      up-past k = rw (e, le-ltb c.at g.start h, lt-ltb g.reach c.at k)

      module _ (k : c.at ≤ g.reach) where
        pub up_wrong : wrong_after (c.at - g.start) c.number ≡ true → step_up c b t room ≡ refuse 18
        unfolding step_up
        up_wrong w = rw (e, le-ltb c.at g.start h, le-ltb g.reach c.at k, w)

      module _ (k : c.at ≤ g.reach) (w : wrong_after (c.at - g.start) c.number ≡ false) where
        pub up_done : c.at ≡ g.end → step_up c b t room ≡ ok (step_is (marked c) done)
        unfolding step_up
        up_done m = rw (e, le-ltb c.at g.start h, le-ltb g.reach c.at k, w, eq-eqb c.at g.end m)

        module _ (m : c.at ≡ g.end → ⊥) where
          pub up-row : {n : ℕ} → row_in (data_of b t) g c.at c.key_len ≡ refuse n → step_up c b t room ≡ refuse n
          unfolding step_up
          up-row q = rw (e, le-ltb c.at g.start h, le-ltb g.reach c.at k, w, ne_eqb c.at g.end m, q)

          module _ (r : RowRead) (q : row_in (data_of b t) g c.at c.key_len ≡ ok r) where
            pub up-short : room < key_length r → step_up c b t room ≡ refuse 19
            unfolding step_up
            up-short l = rw (e, le-ltb c.at g.start h, le-ltb g.reach c.at k, w, ne_eqb c.at g.end m, q, lt-ltb room (key_length r) l)

            pub up-found : key_length r ≤ room → step_up c b t room ≡ ok (step_is (past_row c g r (key_of (data_of b t) c.key r)) (found c.region c.number r (key_of (data_of b t) c.key r)))
            unfolding step_up
            up-found l = rw (e, le-ltb c.at g.start h, le-ltb g.reach c.at k, w, ne_eqb c.at g.end m, q, le-ltb room (key_length r) l)

-- ---- descending

module _ (c : Cursor) (b : List ℕ) (t : Trailer) (room : ℕ) where
  pub down-region : {n : ℕ} → region_of b t c.region ≡ refuse n → step_down c b t room ≡ refuse n
  unfolding step_down
  down-region e = rw e

  module _ (g : Region) (e : region_of b t c.region ≡ ok g) where
    pub down-before : c.at < g.start → step_down c b t room ≡ refuse 18
    unfolding step_down
    down-before h = rw (e, lt-ltb c.at g.start h)

    module _ (h : g.start ≤ c.at) where
      pub down-past : g.end < c.at → step_down c b t room ≡ refuse 18
      unfolding step_down
      down-past k = rw (e, le-ltb c.at g.start h, lt-ltb g.end c.at k)

      module _ (k : c.at ≤ g.end) where
        module _ (m : c.at ≡ g.start) where
          pub down_wrong : 0 < c.number → step_down c b t room ≡ refuse 18
          unfolding step_down
          down_wrong n = rw (e, le-ltb c.at g.start h, le-ltb g.end c.at k, eq-eqb c.at g.start m, lt-ltb 0 c.number n)

          module _ (n : c.number ≤ 0) where
            pub down-done : c.region ≡ 0 → step_down c b t room ≡ ok (step_is (marked c) done)
            unfolding step_down
            down-done z = rw (e, le-ltb c.at g.start h, le-ltb g.end c.at k, eq-eqb c.at g.start m, le-ltb 0 c.number n, eq-eqb c.region 0 z)

            pub down-before-no : {i : ℕ} → (c.region ≡ 0 → ⊥) → region_of b t (c.region - 1) ≡ refuse i → step_down c b t room ≡ refuse i
            unfolding step_down
            down-before-no z q = rw (e, le-ltb c.at g.start h, le-ltb g.end c.at k, eq-eqb c.at g.start m, le-ltb 0 c.number n, ne_eqb c.region 0 z, q)

            pub down-before_in : {f : Region} → (c.region ≡ 0 → ⊥) → region_of b t (c.region - 1) ≡ ok f
                → step_down c b t room ≡ step_back_in c b t room (c.region - 1) f (number_at b t (c.region - 1) c.at)
            unfolding step_down
            down-before_in z q = rw (e, le-ltb c.at g.start h, le-ltb g.end c.at k, eq-eqb c.at g.start m, le-ltb 0 c.number n, ne_eqb c.region 0 z, q)

        pub down_in : (c.at ≡ g.start → ⊥) → step_down c b t room ≡ step_back_in c b t room c.region g c.number
        unfolding step_down
        down_in m = rw (e, le-ltb c.at g.start h, le-ltb g.end c.at k, ne_eqb c.at g.start m)

module _ (c : Cursor) (b : List ℕ) (t : Trailer) (room region : ℕ) (g : Region) (n : ℕ) where
  pub back-no : {i : ℕ} → row_ending_at c.at (data_of b t) g c.at g.start [] ≡ refuse i → step_back_in c b t room region g n ≡ refuse i
  unfolding step_back_in
  back-no e = rw e

  module _ (k : Keyed) (e : row_ending_at c.at (data_of b t) g c.at g.start [] ≡ ok k) where
    pub back_wrong : (n ≡ number_at b t region c.at → ⊥) → step_back_in c b t room region g n ≡ refuse 18
    unfolding step_back_in
    back_wrong w = rw (e, ne_eqb n (number_at b t region c.at) w)

    module _ (w : n ≡ number_at b t region c.at) where
      pub back-short : room < key_length k.row → step_back_in c b t room region g n ≡ refuse 19
      unfolding step_back_in
      back-short h = rw (e, eq-eqb n (number_at b t region c.at) w, lt-ltb room (key_length k.row) h)

      pub back_found : key_length k.row ≤ room
          → step_back_in c b t room region g n ≡ ok (step_is (back_past c region (number_at b t region k.row.start) k.row) (found region (number_at b t region k.row.start) k.row k.key))
      unfolding step_back_in
      back_found h = rw (e, eq-eqb n (number_at b t region c.at) w, le-ltb room (key_length k.row) h)

-- ---- the step back

-- a row that the step back finds: it is read, and its key is as long as it says
pub record Ended (d : List ℕ) (g : Region) (stop : ℕ) (k : Keyed) : Type 0 where
  pub some : 1 ≤ key_length k.row
  pub fits : key_length k.row ≤ max_key
  pub whole : length k.key ≡ key_length k.row
  pub ends : k.row.next ≡ stop
  pub before : k.row.start + 12 ≤ stop
  pub suffix : k.row.suffix_at + k.row.suffix_len ≤ length d

pub ended : (left : ℕ) (d : List ℕ) (g : Region) (stop at : ℕ) (before : Key) (k : Keyed) → row_ending_at left d g stop at before ≡ ok k → Ended d g stop k
unfolding row_ending_at
ended zero d g stop at before k e = absurd (let z : ◌≡◌ {A = ℕ} 0 1 = cc in omega arith)
ended (suc left) d g stop at before k e =
    bind-then (row_in d g at (length before)) _ k e λ r p q.
    let w = row_in-ends d g at (length before) r p in
    let long : r.start + 12 ≤ r.next = omega (arith, w.starts, w.least) in
    ⊎_elim
    (λ t. ended left d g stop r.next (key_of d before r) k t.1)
    (λ t.
    guard-then (ltb stop r.next) 18 _ k t.1 λ u v.
    let n : r.next ≡ stop = le_antisymm (ltb-false stop r.next u) (ltb-false r.next stop t.0) in
    let is : keyed r (key_of d before r) ≡ k = ok-inj v in
    rw (← is)
    (record {
      some = w.some;
      fits = w.fits;
      whole = key_of-length d at g.end before (eqb at g.start) r p;
      ends = n;
      before = subst (λ (m : ℕ). r.start + 12 ≤ m) n long;
      suffix = w.suffix;
    }))
    (cond-ok (ltb r.next stop) _ _ k q)

-- ---- is_empty

module _ (c : Cursor) (b : List ℕ) where
  pub empty-trailer : {n : ℕ} → trailer_of b ≡ refuse n → is_empty c b ≡ refuse n
  unfolding is_empty
  empty-trailer e = rw e

  pub empty-is : (t : Trailer) → trailer_of b ≡ ok t → is_empty c b ≡ ok (exhausted c.order c t)
  unfolding is_empty
  empty-is t e = rw e
