-- The trailer and the regions, by what was met: one law for each exit of the code; and what an answer tells.
use Rattle.std.specs.Prelude.{ℕ, zero, suc, ◌+◌, ◌-◌, ◌*◌, ◌<◌, ◌≤◌, ◌≡◌, refl, List, [], ◌∷◌, ◌++◌, ltb, leb, eqb, length, drop, get_or}
use Rattle.std.proofs.Common.{ap, sym, ◌∙◌, append_assoc, append-nil, ⊎_elim, arith, length-append, take_at, drop_at}
use Rattle.std.proofs.Math.Numerals.{add-one}
use borrow.Author.Tests.{lt-ltb, le-ltb, le-leb, lt-leb, eq-eqb, ne_eqb, ltb-true, ltb-false, leb-false, eqb-false}
use Rattle.layout.specs.Res.{Res, ok, refuse}
use Rattle.layout.specs.Fixed.{big}
use Rattle.layout.specs.Place.{NumAt, fixed_at}
use Rattle.layout.specs.Block.{offset_bytes, trailer}
use Rattle.layout.specs.Trailer.{short_at, count_of, Trailer, trailer_is, trailer_of, offset_at, rising_from, all_offsets, Region, region_is, first_of, region_of}
use Rattle.layout.proofs.Laws.Res.{guard-then, cond-ok, ok-inj, ltb-cases, eqb-cases, spend}
use Rattle.layout.proofs.Laws.Fixed.{length-big, unbig-take-big}
use Rattle.layout.proofs.Laws.Place.{past}
use Rattle.layout.specs.Laws.Block.{AllFit}
use Rattle.layout.specs.Laws.Trailer.{OffsetsTell, RegionTells, RisesFrom, TrailerLaid}

-- two bytes at a place are the short there
pub short-read : (b : List ℕ) (at : ℕ) (x : NumAt) → fixed_at 2 b at ≡ ok x → x.val ≡ short_at b at
unfolding fixed_at short_at
short-read b at x e = guard-then (ltb (length b) (at + 2)) 9 _ x e λ t q. ap (λ (y : NumAt). y.val) (sym (ok-inj q))

module _ (b : List ℕ) where
  pub trailer-short : length b < 2 → refuse 14 ≡ trailer_of b
  unfolding trailer_of
  trailer-short h = rw (lt-ltb (length b) 2 h)

  pub trailer-none : 2 ≤ length b → count_of b ≡ 0 → refuse 14 ≡ trailer_of b
  unfolding trailer_of
  trailer-none h k = rw (le-ltb (length b) 2 h, eq-eqb (count_of b) 0 k)

  pub trailer-long : 2 ≤ length b → (count_of b ≡ 0 → ⊥) → length b < 2 + 2 * count_of b → refuse 14 ≡ trailer_of b
  unfolding trailer_of
  trailer-long h k m = rw (le-ltb (length b) 2 h, ne_eqb (count_of b) 0 k, lt-ltb (length b) (2 + 2 * count_of b) m)

  pub trailer-good : 2 ≤ length b → (count_of b ≡ 0 → ⊥) → 2 + 2 * count_of b ≤ length b → ok (trailer_is (count_of b) (length b - (2 + 2 * count_of b))) ≡ trailer_of b
  unfolding trailer_of
  trailer-good h k m = rw (le-ltb (length b) 2 h, ne_eqb (count_of b) 0 k, le-ltb (length b) (2 + 2 * count_of b) m)

pub trailer_of-tells : (b : List ℕ) (t : Trailer) → trailer_of b ≡ ok t → (t.size + (2 + 2 * t.count) ≡ length b) × (1 ≤ t.count)
unfolding trailer_of
trailer_of-tells b t e =
    guard-then (ltb (length b) 2) 14 _ t e λ t₁ e₁.
    guard-then (eqb (count_of b) 0) 14 _ t e₁ λ t₂ e₂.
    guard-then (ltb (length b) (2 + 2 * count_of b)) 14 _ t e₂ λ t₃ e₃.
    let n = ap (λ (x : Trailer). x.count) (ok-inj e₃) in
    let d = ap (λ (x : Trailer). x.size) (ok-inj e₃) in
    let h = ltb-false (length b) (2 + 2 * count_of b) t₃ in
    let k = eqb-false (count_of b) 0 t₂ in
    (omega arith, omega arith)

module _ (b : List ℕ) (t : Trailer) (r : ℕ) where
  pub region-first : 0 < first_of r (offset_at b t r) → refuse 15 ≡ region_of b t r
  unfolding region_of
  region-first h = rw (lt-ltb 0 (first_of r (offset_at b t r)) h)

  pub region-far : first_of r (offset_at b t r) ≤ 0 → t.size ≤ offset_at b t r → refuse 15 ≡ region_of b t r
  unfolding region_of
  region-far h k = rw (le-ltb 0 (first_of r (offset_at b t r)) h, le-leb t.size (offset_at b t r) k)

  pub region-falls : first_of r (offset_at b t r) ≤ 0 → offset_at b t r < t.size → r + 1 < t.count → offset_at b t (r + 1) ≤ offset_at b t r → refuse 15 ≡ region_of b t r
  unfolding region_of
  region-falls h k m n = rw (le-ltb 0 (first_of r (offset_at b t r)) h, lt-leb t.size (offset_at b t r) k, lt-ltb (r + 1) t.count m, le-leb (offset_at b t (r + 1)) (offset_at b t r) n)

  pub region-next-far : first_of r (offset_at b t r) ≤ 0 → offset_at b t r < t.size → r + 1 < t.count → offset_at b t r < offset_at b t (r + 1) → t.size ≤ offset_at b t (r + 1)
      → refuse 15 ≡ region_of b t r
  unfolding region_of
  region-next-far h k m n o =
      rw (le-ltb 0 (first_of r (offset_at b t r)) h, lt-leb t.size (offset_at b t r) k, lt-ltb (r + 1) t.count m, lt-leb (offset_at b t (r + 1)) (offset_at b t r) n, le-leb t.size (offset_at b t (r + 1)) o)

  pub region-inner : first_of r (offset_at b t r) ≤ 0 → offset_at b t r < t.size → r + 1 < t.count → offset_at b t r < offset_at b t (r + 1) → offset_at b t (r + 1) < t.size
      → ok (region_is (offset_at b t r) (offset_at b t (r + 1)) (offset_at b t (r + 1) - 1)) ≡ region_of b t r
  unfolding region_of
  region-inner h k m n o =
      rw (le-ltb 0 (first_of r (offset_at b t r)) h, lt-leb t.size (offset_at b t r) k, lt-ltb (r + 1) t.count m, lt-leb (offset_at b t (r + 1)) (offset_at b t r) n, lt-leb t.size (offset_at b t (r + 1)) o)

  pub region-last : first_of r (offset_at b t r) ≤ 0 → offset_at b t r < t.size → t.count ≤ r + 1 → ok (region_is (offset_at b t r) t.size t.size) ≡ region_of b t r
  unfolding region_of
  region-last h k m = rw (le-ltb 0 (first_of r (offset_at b t r)) h, lt-leb t.size (offset_at b t r) k, le-ltb (r + 1) t.count m)

pub region_of-tells : (b : List ℕ) (t : Trailer) (r : ℕ) (g : Region) → region_of b t r ≡ ok g → RegionTells b t r g
unfolding region_of
region_of-tells b t r g e =
    guard-then (ltb 0 (first_of r (offset_at b t r))) 15 _ g e λ t₁ e₁.
    guard-then (leb t.size (offset_at b t r)) 15 _ g e₁ λ t₂ e₂.
    let k : offset_at b t r < t.size = leb-false t.size (offset_at b t r) t₂ in
    ⊎_elim
    (λ c.
    guard-then (leb (offset_at b t (r + 1)) (offset_at b t r)) 15 _ g c.1 λ t₃ e₃.
    guard-then (leb t.size (offset_at b t (r + 1))) 15 _ g e₃ λ t₄ e₄.
    let m : offset_at b t r < offset_at b t (r + 1) = leb-false (offset_at b t (r + 1)) (offset_at b t r) t₃ in
    let n : offset_at b t (r + 1) < t.size = leb-false t.size (offset_at b t (r + 1)) t₄ in
    let o : r + 1 < t.count = ltb-true (r + 1) t.count c.0 in
    let w : region_is (offset_at b t r) (offset_at b t (r + 1)) (offset_at b t (r + 1) - 1) ≡ g = ok-inj e₄ in
    rw (← w)
    (record { from = refl; rises = m; inside = omega arith; reaches = omega arith; near = omega arith; last = λ h. absurd (omega arith); inner = λ h. (refl, omega arith) }))
    (λ c.
    let o : t.count ≤ r + 1 = ltb-false (r + 1) t.count c.0 in
    let w : region_is (offset_at b t r) t.size t.size ≡ g = ok-inj c.1 in
    rw (← w)
    (record { from = refl; rises = k; inside = omega arith; reaches = omega arith; near = omega arith; last = λ h. (refl, refl); inner = λ h. absurd (omega arith) }))
    (cond-ok (ltb (r + 1) t.count) _ _ g e₂)

-- ---- all offsets

module _ (b : List ℕ) (t : Trailer) (left r low : ℕ) where
  rising-low : offset_at b t r < low → rising_from (suc left) b t r low ≡ refuse 15
  unfolding rising_from
  rising-low h = rw (lt-ltb (offset_at b t r) low h)

  rising-far : low ≤ offset_at b t r → t.size ≤ offset_at b t r → rising_from (suc left) b t r low ≡ refuse 15
  unfolding rising_from
  rising-far h k = rw (le-ltb (offset_at b t r) low h, le-leb t.size (offset_at b t r) k)

  rising-on : low ≤ offset_at b t r → offset_at b t r < t.size → rising_from (suc left) b t r low ≡ rising_from left b t (r + 1) (offset_at b t r + 1)
  unfolding rising_from
  rising-on h k = rw (add-one r, add-one (offset_at b t r), le-ltb (offset_at b t r) low h, lt-leb t.size (offset_at b t r) k)

rising_none : (b : List ℕ) (t : Trailer) (r low : ℕ) → rising_from 0 b t r low ≡ ok tt
unfolding rising_from
rising_none b t r low = refl

pub rising-start : (b : List ℕ) (t : Trailer) → RisesFrom b t 0 0
rising-start b t = record { left = t.count; count = omega arith; makes = refl }

module _ (b : List ℕ) (t : Trailer) (r low : ℕ) (s : RisesFrom b t r low) where
  -- with offsets left, a step is the whole
  stepped : r < t.count → {A : Type 0} → ((left : ℕ) → r + suc left ≡ t.count → rising_from (suc left) b t r low ≡ rising_from t.count b t 0 0 → A) → A
  stepped h f =
      spend (λ (n : ℕ). rising_from n b t r low) s.left (λ z. absurd (omega (arith, s.count))) s.makes
      λ more is m. f more (omega (arith, s.count)) m

  pub rising-over : t.count ≤ r → ok tt ≡ rising_from t.count b t 0 0
  rising-over h = go s.left s.count s.makes
    where
      go : (left : ℕ) → r + left ≡ t.count → rising_from left b t r low ≡ rising_from t.count b t 0 0 → ok tt ≡ rising_from t.count b t 0 0
      go zero c m = sym (rising_none b t r low) ∙ m
      go (suc left) c m = absurd (omega arith)

  module _ (h : r < t.count) where
    pub rising-falls : offset_at b t r < low → refuse 15 ≡ rising_from t.count b t 0 0
    rising-falls k = stepped h λ left c m. sym (rising-low b t left r low k) ∙ m

    pub rising-past : low ≤ offset_at b t r → t.size ≤ offset_at b t r → refuse 15 ≡ rising_from t.count b t 0 0
    rising-past k l = stepped h λ left c m. sym (rising-far b t left r low k l) ∙ m

    pub rising-next : low ≤ offset_at b t r → offset_at b t r < t.size → RisesFrom b t (r + 1) (offset_at b t r + 1)
    rising-next k l = stepped h λ left c m. record { left = left; count = omega arith; makes = sym (rising-on b t left r low k l) ∙ m }

module _ (b : List ℕ) (t : Trailer) where
  pub offsets-first : 0 < offset_at b t 0 → refuse 15 ≡ all_offsets b t
  unfolding all_offsets
  offsets-first h = rw (lt-ltb 0 (offset_at b t 0) h)

  pub offsets-rest : {x : Res (Unit {0})} → offset_at b t 0 ≤ 0 → x ≡ rising_from t.count b t 0 0 → x ≡ all_offsets b t
  unfolding all_offsets
  offsets-rest h e = rw (le-ltb 0 (offset_at b t 0) h) e

rising-tells : (left : ℕ) (b : List ℕ) (t : Trailer) (r low : ℕ) (u : Unit {0}) → rising_from left b t r low ≡ ok u
    → ((i : ℕ) → r ≤ i → i < r + left → offset_at b t i < t.size)
    × ((i : ℕ) → r ≤ i → i + 1 < r + left → offset_at b t i < offset_at b t (i + 1))
    × (0 < left → low ≤ offset_at b t r)
unfolding rising_from
rising-tells zero b t r low u e = (λ i h k. absurd (omega arith), λ i h k. absurd (omega arith), λ h. absurd (omega arith))
rising-tells (suc left) b t r low u e =
    guard-then (ltb (offset_at b t r) low) 15 _ u e λ t₁ e₁.
    guard-then (leb t.size (offset_at b t r)) 15 _ u e₁ λ t₂ e₂.
    more (ltb-false (offset_at b t r) low t₁) (leb-false t.size (offset_at b t r) t₂) (rising-tells left b t (suc r) (suc (offset_at b t r)) u e₂)
  where
    more : low ≤ offset_at b t r → offset_at b t r < t.size
        → ((i : ℕ) → suc r ≤ i → i < suc r + left → offset_at b t i < t.size)
        × ((i : ℕ) → suc r ≤ i → i + 1 < suc r + left → offset_at b t i < offset_at b t (i + 1))
        × (0 < left → suc (offset_at b t r) ≤ offset_at b t (suc r))
        → ((i : ℕ) → r ≤ i → i < r + suc left → offset_at b t i < t.size)
        × ((i : ℕ) → r ≤ i → i + 1 < r + suc left → offset_at b t i < offset_at b t (i + 1))
        × (0 < suc left → low ≤ offset_at b t r)
    more k l ih = (inside, rise, λ h. k)
      where
        same : (i : ℕ) → r ≤ i → i ≤ r → i ≡ r
        same i h m = omega arith

        inside : (i : ℕ) → r ≤ i → i < r + suc left → offset_at b t i < t.size
        inside i h m = ⊎_elim (λ c. ih.0 i c.1 (omega arith)) (λ c. rw (same i h c.1) l) (ltb-cases r i)

        rise : (i : ℕ) → r ≤ i → i + 1 < r + suc left → offset_at b t i < offset_at b t (i + 1)
        rise i h m = ⊎_elim (λ c. ih.1 i c.1 (omega arith)) (λ c. rw (same i h c.1, add-one r) (ih.2 (omega arith))) (ltb-cases r i)

pub all_offsets-tell : (b : List ℕ) (t : Trailer) (u : Unit {0}) → all_offsets b t ≡ ok u → OffsetsTell b t
unfolding all_offsets
all_offsets-tell b t u e =
    guard-then (ltb 0 (offset_at b t 0)) 15 _ u e λ t₁ e₁.
    let z : offset_at b t 0 ≤ 0 = ltb-false 0 (offset_at b t 0) t₁ in
    let w = rising-tells t.count b t 0 0 u e₁ in
    record { first = omega arith; below-size = λ i h. w.0 i (omega arith) (omega arith); rises = λ i h. w.1 i (omega arith) (omega arith) }

-- and back
rising-good : (left : ℕ) (b : List ℕ) (t : Trailer) (r low : ℕ) → OffsetsTell b t → r + left ≡ t.count → (r < t.count → low ≤ offset_at b t r) → rising_from left b t r low ≡ ok tt
rising-good zero b t r low o n h = rising_none b t r low
rising-good (suc left) b t r low o n h =
    rising-on b t left r low (h (omega arith)) (o.below-size r (omega arith))
    ∙ rising-good left b t (r + 1) (offset_at b t r + 1) o (omega arith) (λ k. omega (arith, o.rises r k))

pub offsets-good : (b : List ℕ) (t : Trailer) → OffsetsTell b t → all_offsets b t ≡ ok tt
offsets-good b t o =
    sym (offsets-rest b t (omega (arith, o.first)) (sym (rising-good t.count b t 0 0 o (omega arith) (λ h. omega arith))))

-- then each region may be used
pub region-good : (b : List ℕ) (t : Trailer) → OffsetsTell b t → (r : ℕ) → r < t.count → (g : Region) × (region_of b t r ≡ ok g)
region-good b t o r h =
    ⊎_elim
    (λ c. (
      region_is (offset_at b t r) (offset_at b t (r + 1)) (offset_at b t (r + 1) - 1),
      sym (region-inner b t r (zero-first r) (o.below-size r h) c.1 (o.rises r c.1) (o.below-size (r + 1) c.1)),
    ))
    (λ c. (region_is (offset_at b t r) t.size t.size, sym (region-last b t r (zero-first r) (o.below-size r h) c.1)))
    (ltb-cases (r + 1) t.count)
  where
    zero-first : (r : ℕ) → first_of r (offset_at b t r) ≤ 0
    zero-first r = ⊎_elim (λ c. rw (c.0, c.1) (omega (arith, o.first))) (λ c. rw c.0 (omega arith)) (eqb-cases r 0)

-- ---- a trailer that was laid

length-offset_bytes : (os : List ℕ) → length (offset_bytes os) ≡ 2 * length os
unfolding offset_bytes
length-offset_bytes [] = refl
length-offset_bytes (o ∷ os) = simp (length-append, length-big, length-offset_bytes os) (omega arith)

pub length-trailer : (os : List ℕ) → length (trailer os) ≡ 2 * length os + 2
unfolding trailer
length-trailer os = simp (length-append, length-big, length-offset_bytes) (omega arith)

short-laid : (b : List ℕ) (at v : ℕ) (post : List ℕ) → v < 65536 → drop at b ≡ big 2 v ++ post → short_at b at ≡ v
unfolding short_at
short-laid b at v post h e = rw (e, unbig-take-big 2 v post (omega arith))

-- offset i of offsets laid at a place
offset-laid : (os : List ℕ) (b : List ℕ) (at : ℕ) (post : List ℕ) → AllFit os → drop at b ≡ offset_bytes os ++ post → (i : ℕ) → i < length os → short_at b (at + 2 * i) ≡ get_or os i 0
unfolding offset_bytes
offset-laid [] b at post f e i h = absurd (omega arith)
offset-laid (o ∷ os) b at post f e zero h =
    ap (short_at b) (omega arith) ∙ short-laid b at o (offset_bytes os ++ post) (omega (arith, f.0)) (rw (append_assoc (big 2 o) (offset_bytes os) post) at e)
offset-laid (o ∷ os) b at post f e (suc i) h =
    let e₁ : drop (at + 2) b ≡ offset_bytes os ++ post = rw (length-big 2 o) at (past b at (big 2 o) (offset_bytes os ++ post) (rw (append_assoc (big 2 o) (offset_bytes os) post) at e)) in
    ap (short_at b) (omega arith) ∙ offset-laid os b (at + 2) post f.1 e₁ i (omega arith)

pub trailer-laid : (d os : List ℕ) → AllFit os → 1 ≤ length os → length os < 65536 → TrailerLaid d os (d ++ trailer os)
trailer-laid d os f h k =
    let b : List ℕ = d ++ trailer os in
    let long : length b ≡ length d + (2 * length os + 2) = rw (length-append d (trailer os), length-trailer os) in
    record {
      read = read long;
      rows = take_at d (trailer os) (length d) refl;
      offs = offset-laid os b (length d) (big 2 (length os)) f here;
    }
  where
    here : drop (length d) (d ++ trailer os) ≡ offset_bytes os ++ big 2 (length os)
    here = drop_at d (trailer os) (length d) refl ∙ (unfold trailer in refl)

    counted : length (d ++ trailer os) ≡ length d + (2 * length os + 2) → count_of (d ++ trailer os) ≡ length os
    counted long =
        let e : drop (length d + 2 * length os) (d ++ trailer os) ≡ big 2 (length os) ++ [] =
        rw (length-offset_bytes os) at (past (d ++ trailer os) (length d) (offset_bytes os) (big 2 (length os)) here) ∙ sym (append-nil (big 2 (length os))) in
        ap (short_at (d ++ trailer os)) (omega arith) ∙ short-laid (d ++ trailer os) (length d + 2 * length os) (length os) [] k e

    read : length (d ++ trailer os) ≡ length d + (2 * length os + 2) → trailer_of (d ++ trailer os) ≡ ok (trailer_is (length os) (length d))
    read long =
        let c : count_of (d ++ trailer os) ≡ length os = counted long in
        let z : count_of (d ++ trailer os) ≡ 0 → ⊥ = λ q. absurd (omega arith) in
        sym (trailer-good (d ++ trailer os) (omega arith) z (omega arith)) ∙ rw c (ap (λ (n : ℕ). ok (trailer_is (length os) n)) (omega arith))
