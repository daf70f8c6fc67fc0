-- The search, over whatever keys. More steps than the span's length change nothing; three equations that a recursive function uses, with the count that it carries; and where it
-- closes and how many keys it reads, on any block.
use Rattle.std.specs.Prelude.{ℕ, zero, suc, ◌+◌, ◌-◌, ◌/◌, ◌^◌, ◌<◌, ◌≤◌, ◌≡◌, refl, Bool}
use Rattle.std.proofs.Common.{zero-le, ap, ◌∙◌, ⊎_elim, arith, sub-eq-zero_of_le, lt-ltb, le-ltb}
use Rattle.std.proofs.Math.Bool.{true, false, cond}
use Rattle.std.proofs.Math.Nat.{pow-succ'}
use Rattle.std.proofs.Math.Numerals.{add-one}
use Rattle.layout.specs.Res.{Res, ok, refuse, bind}
use Rattle.layout.specs.Seek.{Found, found_is, tick, middle, search_in, search}
use Rattle.layout.proofs.Laws.Res.{bind_ok, ltb-cases}
use Rattle.layout.specs.Laws.Search.{Closed, counted, search_on}

pub middle-low : (low high : ℕ) → low < high → low ≤ middle low high
unfolding middle
middle-low low high h = omega arith

pub middle-high : (low high : ℕ) → low < high → middle low high < high
unfolding middle
middle-high low high h = omega arith

-- ---- more fuel changes nothing

pub search_in-more : (f g : ℕ) (is_below : ℕ → Res Bool) (low high : ℕ) → high - low ≤ f → high - low ≤ g → search_in f is_below low high ≡ search_in g is_below low high
unfolding search_in
search_in-more zero zero is_below low high h k = refl
search_in-more zero (suc g) is_below low high h k = rw (le-ltb low high (omega arith))
search_in-more (suc f) zero is_below low high h k = rw (le-ltb low high (omega arith))
search_in-more (suc f) (suc g) is_below low high h k =
    ⊎_elim
    (λ t. rw t.0 (step (is_below (middle low high)) t.1 (search_in-more f g is_below)))
    (λ t. rw t.0)
    (ltb-cases low high)
  where
    step : (p : Res Bool) → low < high → ((l h : ℕ) → h - l ≤ f → h - l ≤ g → search_in f is_below l h ≡ search_in g is_below l h)
        → bind p (λ b. bind (search_in f is_below (cond b (suc (middle low high)) low) (cond b high (middle low high))) tick)
        ≡ bind p (λ b. bind (search_in g is_below (cond b (suc (middle low high)) low) (cond b high (middle low high))) tick)
    step (ok true) w ih = rw (ih (suc (middle low high)) high (omega (arith, middle-low low high w)) (omega (arith, middle-low low high w)))
    step (ok false) w ih = rw (ih low (middle low high) (omega (arith, middle-high low high w)) (omega (arith, middle-high low high w)))
    step (refuse n) w ih = refl

-- ---- the search's three equations: what a recursive function's proof uses

pub search-empty : (is_below : ℕ → Res Bool) (low high : ℕ) → high ≤ low → search is_below low high ≡ ok (found_is low 0)
unfolding search search_in
search-empty is_below low high h = rw (sub-eq-zero_of_le h)

pub search-split : (is_below : ℕ → Res Bool) (low high : ℕ) (b : Bool) → low < high → is_below (middle low high) ≡ ok b
    → search is_below low high ≡ bind (search is_below (cond b (suc (middle low high)) low) (cond b high (middle low high))) tick
unfolding search
search-split is_below low high b h e =
    search_in-more (high - low) (suc (high - low)) is_below low high (omega arith) (omega arith) ∙ (unfold search_in in rw (lt-ltb low high h, e) (ap (λ (x : Res Found). bind x tick) (go b)))
  where
    go : (b : Bool) → search_in (high - low) is_below (cond b (suc (middle low high)) low) (cond b high (middle low high))
        ≡ search_in (cond b high (middle low high) - cond b (suc (middle low high)) low) is_below (cond b (suc (middle low high)) low) (cond b high (middle low high))
    go true = search_in-more _ _ is_below _ _ (omega (arith, middle-low low high h)) (omega arith)
    go false = search_in-more _ _ is_below _ _ (omega (arith, middle-high low high h)) (omega arith)

pub search-refuse : (is_below : ℕ → Res Bool) (low high n : ℕ) → low < high → is_below (middle low high) ≡ refuse n → search is_below low high ≡ refuse n
unfolding search
search-refuse is_below low high n h e = search_in-more (high - low) (suc (high - low)) is_below low high (omega arith) (omega arith) ∙ (unfold search_in in rw (lt-ltb low high h, e))

-- ---- the search, which carries its count: `reads` keys were read before

pub on-whole : {x : Res Found} (is_below : ℕ → Res Bool) (n : ℕ) → x ≡ search_on is_below 0 n 0 → x ≡ search is_below 0 n
unfolding search_on
on-whole is_below n e = e ∙ none (search is_below 0 n)
  where
    none : (y : Res Found) → bind y (counted 0) ≡ y
    none (ok f) = ap (λ (n : ℕ). ok (found_is f.place n)) (omega arith)
    none (refuse n) = refl

-- one law for each exit, with the middle in numbers
module _ (is_below : ℕ → Res Bool) (low high reads : ℕ) where
  pub on-empty : high ≤ low → ok (found_is low reads) ≡ search_on is_below low high reads
  unfolding search_on
  on-empty h = rw (search-empty is_below low high h) (ap (λ (n : ℕ). ok (found_is low n)) (omega arith))

  module _ (h : low < high) where
    pub on-no : {n : ℕ} → is_below (low + (high - low) / 2) ≡ refuse n → refuse n ≡ search_on is_below low high reads
    unfolding search_on middle
    on-no {n} e = rw (search-refuse is_below low high n h e)

    ticked : (y : Res Found) → bind y (counted (reads + 1)) ≡ bind (bind y tick) (counted reads)
    ticked (ok f) = ap (λ (n : ℕ). ok (found_is f.place n)) (omega arith)
    ticked (refuse n) = refl

    pub on-up : {x : Res Found} → is_below (low + (high - low) / 2) ≡ ok true → x ≡ search_on is_below (low + (high - low) / 2 + 1) high (reads + 1) → x ≡ search_on is_below low high reads
    unfolding search_on middle
    on-up e q =
        q ∙ rw (search-split is_below low high true h e, add-one (low + (high - low) / 2)) (ticked (search is_below (suc (low + (high - low) / 2)) high))

    pub on-down : {x : Res Found} → is_below (low + (high - low) / 2) ≡ ok false → x ≡ search_on is_below low (low + (high - low) / 2) (reads + 1) → x ≡ search_on is_below low high reads
    unfolding search_on middle
    on-down e q = q ∙ rw (search-split is_below low high false h e) (ticked (search is_below low (low + (high - low) / 2)))

-- ---- where it closes

closed-empty : (is_below : ℕ → Res Bool) (low high : ℕ) (r : Found) → low ≤ high → high ≤ low → r.place ≡ low → r.reads ≡ 0 → Closed is_below low high r
closed-empty is_below low high r h k e c =
    record { from = omega arith; to = omega arith; before = λ i p q. absurd (omega arith); here = λ p. absurd (omega arith); count = λ k p. omega arith }

closed-up : (is_below : ℕ → Res Bool) (low high : ℕ) (r s : Found) → low < high → is_below (middle low high) ≡ ok true → Closed is_below (suc (middle low high)) high s
    → r.place ≡ s.place → r.reads ≡ suc s.reads → Closed is_below low high r
closed-up is_below low high r s h e c ep er =
    record {
      from = omega (arith, middle-low low high h);
      to = omega arith;
      before = λ i p q. ⊎_elim (λ t. c.before i (omega arith) t.1) (λ t. rw (mid-is i p t.1) e) (ltb-cases (middle low high) i);
      here = λ p. rw ep (c.here (omega arith));
      count = count;
    }
  where
    mid-is : (i : ℕ) → suc i ≡ r.place → i ≤ middle low high → i ≡ middle low high
    mid-is i p q = omega (arith, c.from)

    count : (k : ℕ) → high - low < 2 ^ k → r.reads ≤ k
    count zero p = absurd (omega arith)
    count (suc k) p = omega (arith, c.count k (unfold middle in omega (arith, pow-succ' 2 k)))

closed-down : (is_below : ℕ → Res Bool) (low high : ℕ) (r s : Found) → low < high → is_below (middle low high) ≡ ok false → Closed is_below low (middle low high) s
    → r.place ≡ s.place → r.reads ≡ suc s.reads → Closed is_below low high r
closed-down is_below low high r s h e c ep er =
    record {
      from = omega arith;
      to = omega (arith, middle-high low high h);
      before = λ i p q. c.before i (omega arith) q;
      here = λ p. ⊎_elim (λ t. rw ep (c.here (omega (arith, t.1)))) (λ t. rw (mid-is t.1) e) (ltb-cases r.place (middle low high));
      count = count;
    }
  where
    mid-is : middle low high ≤ r.place → r.place ≡ middle low high
    mid-is p = omega (arith, c.to)

    count : (k : ℕ) → high - low < 2 ^ k → r.reads ≤ k
    count zero p = absurd (omega arith)
    count (suc k) p = omega (arith, c.count k (unfold middle in omega (arith, pow-succ' 2 k)))

search_in-closed : (f : ℕ) (is_below : ℕ → Res Bool) (low high : ℕ) (r : Found) → low ≤ high → high - low ≤ f → search_in f is_below low high ≡ ok r → Closed is_below low high r
unfolding search_in
search_in-closed zero is_below low high r h k e = closed-empty is_below low high r h (omega arith) (cc) (cc)
search_in-closed (suc f) is_below low high r h k e =
    ⊎_elim
    (λ t. let p = bind_ok (is_below (middle low high)) _ r (rw t.0 at e) in step p.0 p.1 p.2 t.1 (search_in-closed f is_below))
    (λ t. let e' : ◌≡◌ {A = Res Found} (ok (found_is low 0)) (ok r) = rw t.0 at e in closed-empty is_below low high r h t.1 (cc) (cc))
    (ltb-cases low high)
  where
    step : (b : Bool) → is_below (middle low high) ≡ ok b → bind (search_in f is_below (cond b (suc (middle low high)) low) (cond b high (middle low high))) tick ≡ ok r → low < high
        → ((l h : ℕ) (s : Found) → l ≤ h → h - l ≤ f → search_in f is_below l h ≡ ok s → Closed is_below l h s) → Closed is_below low high r
    step true p q w ih =
        let u = bind_ok (search_in f is_below (suc (middle low high)) high) tick r q in
        let z : tick u.0 ≡ ok r = u.2 in
        closed-up is_below low high r u.0 w p (ih (suc (middle low high)) high u.0 (middle-high low high w) (omega (arith, middle-low low high w)) u.1) (cc) (cc)
    step false p q w ih =
        let u = bind_ok (search_in f is_below low (middle low high)) tick r q in
        let z : tick u.0 ≡ ok r = u.2 in
        closed-down is_below low high r u.0 w p (ih low (middle low high) u.0 (middle-low low high w) (omega (arith, middle-high low high w)) u.1) (cc) (cc)

pub search-closed : (is_below : ℕ → Res Bool) (low high : ℕ) (r : Found) → low ≤ high → search is_below low high ≡ ok r → Closed is_below low high r
unfolding search
search-closed is_below low high r h e = search_in-closed (high - low) is_below low high r h (omega arith) e

-- probes that all answer make a search that answers
pub search-answers : (f : ℕ) (is_below : ℕ → Res Bool) (less : ℕ → Bool) (low high : ℕ) → ((i : ℕ) → i < high → is_below i ≡ ok (less i)) → (r : Found) × (search_in f is_below low high ≡ ok r)
unfolding search_in
search-answers zero is_below less low high g = (found_is low 0, refl)
search-answers (suc f) is_below less low high g =
    ⊎_elim
    (λ t.
    let w : middle low high < high = middle-high low high t.1 in
    let u = search-answers f is_below less (cond (less (middle low high)) (suc (middle low high)) low) (cond (less (middle low high)) high (middle low high)) (λ i h. g i (inside (less (middle low high)) i w h)) in
    (found_is u.0.place (suc u.0.reads), rw (t.0, g (middle low high) w, u.1)))
    (λ t. (found_is low 0, rw t.0))
    (ltb-cases low high)
  where
    inside : (b : Bool) (i : ℕ) → middle low high < high → i < cond b high (middle low high) → i < high
    inside true i w h = h
    inside false i w h = omega arith

-- as many keys are read as the span's length has significant bits, at most
pub search-reads : (is_below : ℕ → Res Bool) (n : ℕ) (r : Found) (k : ℕ) → n < 2 ^ k → search is_below 0 n ≡ ok r → r.reads ≤ k
search-reads is_below n r k h e = (search-closed is_below 0 n r zero-le e).count k (omega arith)
