-- Keys: the order is one; the test decides it; the common prefix; and both tests byte by byte, as a loop over two slices meets them.
use Rattle.std.specs.Prelude.{ℕ, suc, ◌+◌, ◌<◌, ◌≤◌, ◌≡◌, Bool, true, cond, not, List, [], ◌∷◌, length, take, drop, get_or}
use Rattle.std.proofs.Common.{zero-le, suc-le-suc, ⊎_elim, inl, inr, arith, add-one, drop_of_length-le}
use Rattle.std.proofs.Math.Path.{refl}
use Rattle.std.proofs.Math.Bool.{false}
use Rattle.std.proofs.Math.Dec.{ltb}
use Rattle.std.proofs.Math.Seq.{drop-cons}
use borrow.Author.Tests.{lt-ltb, le-ltb, eq-eqb, ne_eqb}
use Rattle.layout.specs.Key.{Key, below, same, less, equal, greater, compare, common}
use Rattle.layout.proofs.Laws.Res.{ltb-cases, eqb-cases, bool_cases}
use Rattle.layout.specs.Laws.Key.{AtMost}

pub at-most-refl : (a : Key) → AtMost a a
at-most-refl [] = tt
at-most-refl (x ∷ xs) = inr (refl, at-most-refl xs)

pub at-most-trans : (a b c : Key) → AtMost a b → AtMost b c → AtMost a c
at-most-trans [] b c p q = tt
at-most-trans (x ∷ xs) [] c p q = absurd p
at-most-trans (x ∷ xs) (y ∷ ys) [] p q = absurd q
at-most-trans (x ∷ xs) (y ∷ ys) (z ∷ zs) (inl p) (inl q) = inl (omega arith)
at-most-trans (x ∷ xs) (y ∷ ys) (z ∷ zs) (inl p) (inr q) = inl (omega arith)
at-most-trans (x ∷ xs) (y ∷ ys) (z ∷ zs) (inr p) (inl q) = inl (omega arith)
at-most-trans (x ∷ xs) (y ∷ ys) (z ∷ zs) (inr p) (inr q) = inr (omega arith, at-most-trans xs ys zs p.1 q.1)

pub at-most_antisym : (a b : Key) → AtMost a b → AtMost b a → a ≡ b
at-most_antisym [] [] p q = refl
at-most_antisym [] (y ∷ ys) p q = absurd q
at-most_antisym (x ∷ xs) [] p q = absurd p
at-most_antisym (x ∷ xs) (y ∷ ys) (inl p) (inl q) = absurd (omega arith)
at-most_antisym (x ∷ xs) (y ∷ ys) (inl p) (inr q) = absurd (omega arith)
at-most_antisym (x ∷ xs) (y ∷ ys) (inr p) (inl q) = absurd (omega arith)
at-most_antisym (x ∷ xs) (y ∷ ys) (inr p) (inr q) = cc (p.0, at-most_antisym xs ys p.1 q.1)

-- the test decides the order
pub below_false : (a b : Key) → below a b ≡ false → AtMost b a
unfolding below
below_false a [] e = tt
below_false [] (y ∷ ys) e = let z : ◌≡◌ {A = ℕ} 0 1 = cc in absurd (omega arith)
below_false (x ∷ xs) (y ∷ ys) e =
    ⊎_elim
    (λ t. let e' : true ≡ false = rw t.0 at e in let z : ◌≡◌ {A = ℕ} 0 1 = cc in absurd (omega arith))
    (λ t. ⊎_elim (λ u. inl u.1) (λ u. inr (omega arith, below_false xs ys (rw (t.0, u.0) at e))) (ltb-cases y x))
    (ltb-cases x y)

pub le_below : (a b : Key) → AtMost b a → below a b ≡ false
unfolding below
le_below a [] h = refl
le_below [] (y ∷ ys) h = absurd h
le_below (x ∷ xs) (y ∷ ys) (inl h) = rw (le-ltb x y (omega arith), lt-ltb y x h)
le_below (x ∷ xs) (y ∷ ys) (inr h) = rw (le-ltb x y (omega arith), le-ltb y x (omega arith)) (le_below xs ys h.1)

-- a key that is below another is at most it
pub below-le : (a b : Key) → below a b ≡ true → AtMost a b
unfolding below
below-le a [] e = let z : ◌≡◌ {A = ℕ} 0 1 = cc in absurd (omega arith)
below-le [] (y ∷ ys) e = tt
below-le (x ∷ xs) (y ∷ ys) e =
    ⊎_elim
    (λ t. inl t.1)
    (λ t.
    ⊎_elim (λ u. let e' : false ≡ true = rw (t.0, u.0) at e in let z : ◌≡◌ {A = ℕ} 0 1 = cc in absurd (omega arith))
    (λ u. inr (omega arith, below-le xs ys (rw (t.0, u.0) at e)))
    (ltb-cases y x))
    (ltb-cases x y)

-- below a key, so below what is above it
pub below-trans : (a b c : Key) → AtMost a b → below b c ≡ true → below a c ≡ true
below-trans a b c h e =
    ⊎_elim (λ t. t)
    (λ t. let e' : below b c ≡ false = le_below b c (at-most-trans c a b (below_false a c t) h) in cc)
    (bool_cases (below a c))

pub below-most : (a b c : Key) → below a b ≡ true → AtMost b c → below a c ≡ true
below-most a b c e h =
    ⊎_elim (λ t. t)
    (λ t. let e' : below a b ≡ false = le_below a b (at-most-trans b c a h (below_false a c t)) in cc)
    (bool_cases (below a c))

-- ---- the common prefix

pub common-left : (xs ys : List ℕ) → common xs ys ≤ length xs
unfolding common
common-left [] ys = zero-le
common-left (x ∷ xs) [] = zero-le
common-left (x ∷ xs) (y ∷ ys) = ⊎_elim (λ t. rw t.0 (suc-le-suc (common-left xs ys))) (λ t. rw t.0 zero-le) (eqb-cases x y)

pub common-right : (xs ys : List ℕ) → common xs ys ≤ length ys
unfolding common
common-right [] ys = zero-le
common-right (x ∷ xs) [] = zero-le
common-right (x ∷ xs) (y ∷ ys) = ⊎_elim (λ t. rw t.0 (suc-le-suc (common-right xs ys))) (λ t. rw t.0 zero-le) (eqb-cases x y)

pub common-take : (xs ys : List ℕ) → take (common xs ys) xs ≡ take (common xs ys) ys
unfolding common
common-take [] ys = refl
common-take (x ∷ xs) [] = refl
common-take (x ∷ xs) (y ∷ ys) = ⊎_elim (λ t. rw t.0 (cc (common-take xs ys, t.1))) (λ t. rw t.0) (eqb-cases x y)

-- ---- byte by byte

module _ (a b : List ℕ) (i : ℕ) where
  pub below-over : length b ≤ i → below (drop i a) (drop i b) ≡ false
  unfolding below
  below-over k = rw (drop_of_length-le b k)

  pub below-short : length a ≤ i → i < length b → below (drop i a) (drop i b) ≡ true
  unfolding below
  below-short h k = rw (drop_of_length-le a h, drop-cons b i 0 k)

  module _ (h : i < length a) (k : i < length b) where
    pub below_less : get_or a i 0 < get_or b i 0 → below (drop i a) (drop i b) ≡ true
    unfolding below
    below_less l = rw (drop-cons a i 0 h, drop-cons b i 0 k, lt-ltb (get_or a i 0) (get_or b i 0) l)

    pub below_more : get_or b i 0 < get_or a i 0 → below (drop i a) (drop i b) ≡ false
    unfolding below
    below_more l =
        let o : ltb (get_or a i 0) (get_or b i 0) ≡ false = le-ltb (get_or a i 0) (get_or b i 0) (omega arith) in
        rw (drop-cons a i 0 h, drop-cons b i 0 k, o, lt-ltb (get_or b i 0) (get_or a i 0) l)

    pub below-same : get_or b i 0 ≤ get_or a i 0 → get_or a i 0 ≤ get_or b i 0 → below (drop i a) (drop i b) ≡ below (drop (i + 1) a) (drop (i + 1) b)
    unfolding below
    below-same l m =
        rw (add-one i, drop-cons a i 0 h, drop-cons b i 0 k, le-ltb (get_or a i 0) (get_or b i 0) l, le-ltb (get_or b i 0) (get_or a i 0) m)

-- how a compares with b, from byte i on
module _ (a b : Key) (i : ℕ) where
  pub compare-ended : length a ≤ i → length b ≤ i → compare (drop i a) (drop i b) ≡ equal
  unfolding compare
  compare-ended h k = rw (below-over a b i k, below-over b a i h)

  pub compare-short : length a ≤ i → i < length b → compare (drop i a) (drop i b) ≡ less
  unfolding compare
  compare-short h k = rw (below-short a b i h k)

  pub compare-long : i < length a → length b ≤ i → compare (drop i a) (drop i b) ≡ greater
  unfolding compare
  compare-long h k = rw (below-over a b i k, below-short b a i k h)

  module _ (h : i < length a) (k : i < length b) where
    pub compare-less : get_or a i 0 < get_or b i 0 → compare (drop i a) (drop i b) ≡ less
    unfolding compare
    compare-less l = rw (below_less a b i h k l)

    pub compare_greater : get_or b i 0 < get_or a i 0 → compare (drop i a) (drop i b) ≡ greater
    unfolding compare
    compare_greater l = rw (below_more a b i h k l, below_less b a i k h l)

    pub compare-more : get_or b i 0 ≤ get_or a i 0 → get_or a i 0 ≤ get_or b i 0 → compare (drop i a) (drop i b) ≡ compare (drop (i + 1) a) (drop (i + 1) b)
    unfolding compare
    compare-more l m = rw (below-same a b i h k l m, below-same b a i k h m l)

-- how many bytes both have in common, from byte i on
module _ (a b : Key) (i : ℕ) where
  pub common-ended : length a ≤ i → common (drop i a) (drop i b) ≡ 0
  unfolding common
  common-ended h = rw (drop_of_length-le a h)

  pub common-over : length b ≤ i → common (drop i a) (drop i b) ≡ 0
  common-over h = rw (drop_of_length-le b h) (none (drop i a))
    where
      none : (xs : Key) → common xs [] ≡ 0
      none [] = unfold common in refl
      none (x ∷ xs) = unfold common in refl

  module _ (h : i < length a) (k : i < length b) where
    pub common_differs : (get_or a i 0 ≡ get_or b i 0 → ⊥) → common (drop i a) (drop i b) ≡ 0
    unfolding common
    common_differs n = rw (drop-cons a i 0 h, drop-cons b i 0 k, ne_eqb (get_or a i 0) (get_or b i 0) n)

    pub common-more : get_or a i 0 ≡ get_or b i 0 → common (drop i a) (drop i b) ≡ suc (common (drop (i + 1) a) (drop (i + 1) b))
    unfolding common
    common-more e = rw (add-one i, drop-cons a i 0 h, drop-cons b i 0 k, eq-eqb (get_or a i 0) (get_or b i 0) e)

-- ---- the tests in words

-- neither below the other: they are one key
pub same-is : (a b : Key) → same a b ≡ true → a ≡ b
same-is a b e =
    ⊎_elim
    (λ t. absurd (let q : false ≡ true = rw t at e in let z : ◌≡◌ {A = ℕ} 0 1 = cc in omega arith))
    (λ t. at-most_antisym a b (below_false b a (was-not (below b a) (rw t at e))) (below_false a b t))
    (bool_cases (below a b))
  where
    was-not : (b : Bool) → not b ≡ true → b ≡ false
    was-not true e = let z : ◌≡◌ {A = ℕ} 0 1 = cc in absurd (omega arith)
    was-not false e = refl

-- a comparison's answer `equal` is the test
pub compare_same : (a b : Key) → compare a b ≡ equal → same a b ≡ true
unfolding compare
compare_same a b e = go (below a b) (below b a) e
  where
    go : (p q : Bool) → cond p less (cond q greater equal) ≡ equal → cond p false (not q) ≡ true
    go true q e = let z : ◌≡◌ {A = ℕ} 0 1 = cc in absurd (omega arith)
    go false true e = let z : ◌≡◌ {A = ℕ} 0 1 = cc in absurd (omega arith)
    go false false e = refl
