-- How many restart keys a search reads, proved: each read halves the span, so a span below 2 ^ k takes at most k; and where every key is found not below the target the lower half,
-- the longer one, is kept each time, so that a span takes as many as it has digits.
use Rattle.std.specs.Prelude.{ℕ, zero, suc, ◌+◌, ◌-◌, ◌*◌, ◌/◌, ◌^◌, ◌<◌, ◌≤◌, min, ◌≡◌, refl, Bool, ltb, eqb, length, get_or}
use Rattle.std.proofs.Common.{zero-le, ◌∙◌, ⊎_elim, pow_mono}
use Rattle.std.proofs.Math.Path.{ap, sym}
use Rattle.std.proofs.Math.Bool.{false}
use mathlib.Core.List.{List, []}
use Rattle.std.proofs.Math.Nat.{pow-succ'}
use native.Mathlib.Omega.{arith}
use Rattle.std.specs.Int.Count.{count_leading_zeros, leading_le}
use Rattle.std.proofs.lemmas.Nat.{leading_top, leading_length}
use Rattle.layout.specs.Res.{Res, ok, refuse, bind}
use Rattle.layout.specs.Limits.{max_key, max_restarts}
use Rattle.layout.specs.Varint.{significant_bits}
use Rattle.layout.specs.Key.{Key, below}
use Rattle.layout.specs.Block.{block_bytes}
use Rattle.layout.specs.Trailer.{count_of, Trailer, trailer_of}
use Rattle.layout.specs.Check.{check}
use Rattle.layout.specs.Cursor.{Direction, ascending, descending, Cursor, Keyed}
use Rattle.layout.specs.Seek.{Found, found_is, middle, search, restart_below, search_restarts, walk_up, seek_up, start_down, walk_down, seek_down, Sought, sought_is, seek_along, seek}
use Rattle.layout.proofs.Laws.Res.{bind-then, guard-then, ltb-cases, ok-inj}
use Rattle.layout.proofs.Laws.Search.{search-empty, search-split, search-reads}
use Rattle.layout.proofs.Laws.Seek.{below-is, down-no}
use Rattle.demands.specs.Reads.{Reads}
use Rattle.demands.specs.Walked.{ReachedOn, StopsUp}
use Rattle.demands.specs.CostBlocks.{debits, laid, count-is, accepted, bytes}
use Rattle.demands.specs.Laws.Split.{split_at}
use Rattle.demands.specs.Laws.Reach.{up-two, up-stops, down-one}
use Rattle.demands.specs.Proof2.{accepted-rows, rows-room, sought-up, sought-down, short-small, restarts-few}

-- ---- at most

-- two bytes count the restarts
pub count_small : (b : List ℕ) (t : Trailer) → ((i : ℕ) → get_or b i 0 < 256) → trailer_of b ≡ ok t → t.count < 65536
unfolding trailer_of
count_small b t bytes e =
    guard-then (ltb (length b) 2) 14 _ t e λ t₁ e₁.
    guard-then (eqb (count_of b) 0) 14 _ t e₁ λ t₂ e₂.
    guard-then (ltb (length b) (2 + 2 * count_of b)) 14 _ t e₂ λ t₃ e₃.
    let is : count_of b ≡ t.count = ap (λ (x : Trailer). x.count) (ok-inj e₃) in
    omega (arith, short-small b (length b - 2) bytes)

pub bits_above : (n : ℕ) → n < 2 ^ 32 → n < 2 ^ significant_bits n
bits_above n h = let l = leading_length 32 n h in let m : l.0 ≡ significant_bits n = omega (arith, l.1) in rw (← m) l.2

-- the number of bits is one: powers of two do not overlap
pub bits-between : (k n : ℕ) → 2 ^ k ≤ n → n < 2 ^ suc k → n < 2 ^ 32 → significant_bits n ≡ suc k
bits-between k n low high h =
    let l = leading_top 32 n (omega (arith, pow_mono {i = 0} {j = k} zero-le)) h in
    let is : l.0 ≡ k =
    ⊎_elim
    (λ c. absurd (omega (arith, pow_mono c.1, l.3)))
    (λ c. ⊎_elim (λ c'. absurd (omega (arith, pow_mono c'.1, l.2))) (λ c'. omega (arith, c.1, c'.1)) (ltb-cases k l.0))
    (ltb-cases l.0 k) in
    omega (arith, l.1)

-- what a seek reports is what its search read
pub seek-searched : (d : Direction) (b : List ℕ) (target : Key) (t : Trailer) (s : Sought) → trailer_of b ≡ ok t → seek d b target ≡ ok s
    → (f : Found) × (search_restarts b t target ≡ ok f) × (f.reads ≡ s.reads)
unfolding seek
seek-searched d b target t s e q =
    bind-then (trailer_of b) _ s q λ t' e' q₁.
    let same : t' ≡ t = ok-inj (sym e' ∙ e) in
    bind-then (search_restarts b t' target) _ s q₁ λ f p q₂.
    bind-then (seek_along d b t' target f.place) _ s q₂ λ c w q₃.
    let z : sought_is c f.reads ≡ s = ok-inj q₃ in
    (f, rw (← same) p, ap (λ (x : Sought). x.reads) z)

pub reads-at-most : (d : Direction) (b : List ℕ) (target : Key) (t : Trailer) (s : Sought) → ((i : ℕ) → get_or b i 0 < 256) → trailer_of b ≡ ok t → seek d b target ≡ ok s
    → s.reads ≤ significant_bits t.count
unfolding search_restarts
reads-at-most d b target t s bytes e q =
    let f = seek-searched d b target t s e q in
    let few : t.count < 2 ^ 32 = omega (arith, count_small b t bytes e) in
    omega (arith, f.2, search-reads (restart_below b t target) t.count f.0 (significant_bits t.count) (bits_above t.count few) f.1)

-- ---- and no fewer

-- every key not below: the lower half is kept, and its length has one digit less
pub none_below : (k n : ℕ) (is_below : ℕ → Res Bool) → n < 2 ^ k → ((i : ℕ) → i < n → is_below i ≡ ok false) → search is_below 0 n ≡ ok (found_is 0 (k - count_leading_zeros k n))
unfolding count_leading_zeros
none_below zero n is_below h all = search-empty is_below 0 n (omega arith)
none_below (suc k) zero is_below h all = search-empty is_below 0 0 zero-le ∙ ap (λ (m : ℕ). ok (found_is 0 m)) (omega arith)
none_below (suc k) (suc n) is_below h all =
    let mid : middle 0 (suc n) ≡ suc n / 2 = unfold middle in omega arith in
    let ih = none_below k (suc n / 2) is_below (omega (arith, pow-succ' 2 k)) (λ i l. all i (omega arith)) in
    search-split is_below 0 (suc n) false (omega arith) (rw mid (all (suc n / 2) (omega arith)))
    ∙ rw (mid, ih) (ap (λ (m : ℕ). ok (found_is 0 m)) (omega (arith, leading_le k (suc n / 2))))

-- ---- on an accepted block

module _ (b : List ℕ) (n : ℕ) (accepted : check b ≡ ok n) where
  pub answers : (d : Direction) (target : Key) → (s : Sought) × (seek d b target ≡ ok s)
  answers ascending target =
      let r = accepted-rows b n accepted in
      let s = sought-up b n r.0 r.1 r.2 target max_key (rows-room b n r.0 r.1 r.2) in
      (sought_is s.c s.reads, s.is)
  answers descending target =
      let r = accepted-rows b n accepted in
      let s = sought-down b n r.0 r.1 r.2 target max_key (rows-room b n r.0 r.1 r.2) in
      (sought_is s.c s.reads, s.is)

  -- its restarts' keys are read
  each_read : (t : Trailer) → trailer_of b ≡ ok t → (regions : List (List Keyed)) × Reads b t regions
  each_read t e =
      let r = accepted-rows b n accepted in
      let same : r.0 ≡ t = ok-inj (sym r.2.reads.trailer-good ∙ e) in
      (r.2.regions, rw same at r.2.reads)

module _ (d : Direction) (b : List ℕ) (bytes : (i : ℕ) → get_or b i 0 < 256) (n : ℕ) (accepted : check b ≡ ok n) (t : Trailer) (e : trailer_of b ≡ ok t) where
  none-below-none : (i : ℕ) → i < t.count → restart_below b t [] i ≡ ok false
  none-below-none i h =
      let r = each_read b n accepted t e in
      let w = split_at b t r.0 r.1 i h in
      below-is b t i [] w.k.key w.key-is ∙ (unfold below in refl)

  pub reads-reached : (s : Sought) → seek d b [] ≡ ok s → s.reads ≡ significant_bits t.count
  unfolding search_restarts
  reads-reached s q =
      let f = seek-searched d b [] t s e q in
      let few : t.count < 2 ^ 32 = omega (arith, count_small b t bytes e) in
      let z : f.0 ≡ found_is 0 (significant_bits t.count) = ok-inj (sym f.1 ∙ none_below 32 t.count (restart_below b t []) few none-below-none) in
      sym f.2 ∙ ap (λ (x : Found). x.reads) z

pub few-reads : (b : List ℕ) (bytes : (i : ℕ) → get_or b i 0 < 256) (n : ℕ) → check b ≡ ok n → (d : Direction) (target : Key) (s : Sought) → seek d b target ≡ ok s → s.reads ≤ 13
unfolding search_restarts
few-reads b bytes n accepted d target s e =
    let r = accepted-rows b n accepted in
    let f = seek-searched d b target r.0 s r.2.reads.trailer-good e in
    let few : r.0.count < 2 ^ 13 = omega (arith, restarts-few b r.0 r.2.regions r.2.reads bytes) in
    omega (arith, f.2, search-reads (restart_below b r.0 target) r.0.count f.0 13 few f.1)

-- ---- for each count

pub reached-on : (n : ℕ) → 1 ≤ n → n ≤ max_restarts → ReachedOn n
reached-on zero some h = absurd (omega arith)
reached-on (suc n) some h =
    let b : List ℕ = block_bytes 1 (debits (suc n)) in
    let l = laid n h in
    record {
      b = b;
      bytes = bytes (suc n);
      accepted = accepted n h;
      t = l.t;
      trailer-is = l.reads.trailer-good;
      restarts = count-is n h;
      reaches =
          λ d.
          let s = answers b (suc n) (accepted n h) d [] in
          (s.0, s.1, reads-reached d b (bytes (suc n)) (suc n) (accepted n h) l.t l.reads.trailer-good s.0 s.1 ∙ ap (λ (m : ℕ). significant_bits m) (count-is n h));
    }

-- ---- after the search

module _ (b : List ℕ) (t : Trailer) (e : trailer_of b ≡ ok t) (target : Key) (f : Found) (q : search_restarts b t target ≡ ok f) where
  pub up-read : seek ascending b target ≡ bind (walk_up (min 2 (t.count - (f.place - 1))) b t target (f.place - 1)) (λ (c : Cursor). ok (sought_is c f.reads))
  unfolding seek
  up-read = rw (e, q, up-two b t target f e q)

  pub up-lands : (s : Sought) → seek ascending b target ≡ ok s → StopsUp b t f.place s.cursor
  unfolding seek
  up-lands s w =
      bind-then (seek_up b t target f.place) _ s (rw (e, q) at w) λ c p z.
      let is : sought_is c f.reads ≡ s = ok-inj z in
      rw (← ap (λ (x : Sought). x.cursor) is) (up-stops b t target f c e q p)

  pub down-read : seek descending b target ≡ bind (start_down b t target f.place) (λ (region : ℕ). bind (walk_down 1 b t target region) (λ (c : Cursor). ok (sought_is c f.reads)))
  unfolding seek
  down-read = rw (e, q) (go (start_down b t target f.place) refl)
    where
      go : (x : Res ℕ) → start_down b t target f.place ≡ x
          → bind (seek_down b t target f.place) (λ (c : Cursor). ok (sought_is c f.reads)) ≡ bind x (λ (region : ℕ). bind (walk_down 1 b t target region) (λ (c : Cursor). ok (sought_is c f.reads)))
      go (ok region) h = rw (down-one b t target f region q h)
      go (refuse n) h = rw (← down-no b t target f.place h)
