-- Keys compared in parts, with no key put together: of two keys that each share bytes with a third, only what stands after the fewer shared bytes is compared, and
-- the one that shares more has it in two parts.
use Rattle.std.specs.Prelude.{ℕ, ◌+◌, ◌-◌, ◌<◌, ◌≤◌, ◌≡◌, Bool, true, false, cond, List, [], ◌∷◌, ◌++◌, length, take, drop}
use Rattle.std.proofs.Math.Path.{refl}
use Rattle.std.proofs.Common.{ap, sym, ◌∙◌, append_assoc, ⊎_elim, arith, length-drop, take-append-drop, take_all, take-add, drop-drop, length-take-le}
use borrow.Author.Tests.{lt-ltb, le-ltb}
use Rattle.layout.specs.Key.{Key, below, Ordering, less, equal, greater, compare}
use Rattle.layout.proofs.Laws.Res.{ltb-cases, clash}
use Rattle.layout.proofs.Laws.Key.{le_below, below-le}
use Rattle.layout.proofs.Laws.Carry.{compare-after}
use Rattle.layout_v1.specs.Laws.Joined.{flipped, key_at}

-- ---- byte by byte

module _ (x y : ℕ) (a b : Key) where
  cons-less : x < y → compare (x ∷ a) (y ∷ b) ≡ less
  unfolding compare below
  cons-less h = rw (lt-ltb x y h)

  cons_greater : y < x → compare (x ∷ a) (y ∷ b) ≡ greater
  unfolding compare below
  cons_greater h = rw (le-ltb x y (omega arith), lt-ltb y x h)

  cons_same : x ≡ y → compare (x ∷ a) (y ∷ b) ≡ compare a b
  unfolding compare below
  cons_same h = rw (le-ltb x y (omega arith), le-ltb y x (omega arith))

-- which of the three it is
byte-cases : {A : Type 0} (x y : ℕ) → (x < y → A) → (y < x → A) → (x ≡ y → A) → A
byte-cases x y f g h =
    ⊎_elim (λ t. f t.1) (λ t. ⊎_elim (λ u. g u.1) (λ u. h (omega (arith, t.1, u.1))) (ltb-cases y x)) (ltb-cases x y)

-- ---- both ways round

pub compare-flip : (a b : Key) → flipped (compare a b) ≡ compare b a
unfolding compare
compare-flip a b = go (below a b) (below b a) refl refl
  where
    go : (p q : Bool) → below a b ≡ p → below b a ≡ q → flipped (cond p less (cond q greater equal)) ≡ cond q less (cond p greater equal)
    go true true e f = absurd (clash f (le_below b a (below-le a b e)))
    go true false e f = refl
    go false true e f = refl
    go false false e f = refl

-- ---- in two parts

abbrev pub then_by : Ordering → Ordering → Ordering
then_by less o = less
then_by equal o = o
then_by greater o = greater

compare-parts : (a p b q : Key) → length a ≡ length p → compare (a ++ b) (p ++ q) ≡ then_by (compare a p) (compare b q)
compare-parts [] [] b q h = unfold compare below in refl
compare-parts [] (y ∷ p) b q h = absurd (omega arith)
compare-parts (x ∷ a) [] b q h = absurd (omega arith)
compare-parts (x ∷ a) (y ∷ p) b q h =
    byte-cases x y
    (λ l. rw (cons-less x y (a ++ b) (p ++ q) l, cons-less x y a p l))
    (λ g. rw (cons_greater x y (a ++ b) (p ++ q) g, cons_greater x y a p g))
    (λ s. rw (cons_same x y (a ++ b) (p ++ q) s, cons_same x y a p s) (compare-parts a p b q (omega arith)))

-- the second part tells nothing where the other key is shorter than the first
pub joined-short : (a b c : Key) → length c < length a → compare a c ≡ compare (a ++ b) c
joined-short [] b c h = absurd (omega arith)
joined-short (x ∷ a) b [] h = unfold compare below in refl
joined-short (x ∷ a) b (y ∷ c) h =
    byte-cases x y
    (λ l. rw (cons-less x y (a ++ b) c l, cons-less x y a c l))
    (λ g. rw (cons_greater x y (a ++ b) c g, cons_greater x y a c g))
    (λ s. rw (cons_same x y (a ++ b) c s, cons_same x y a c s) (joined-short a b c (omega arith)))

module _ (a b c : Key) (h : length a ≤ length c) where
  joined-parts : compare (a ++ b) c ≡ then_by (compare a (take (length a) c)) (compare b (drop (length a) c))
  joined-parts =
      ap (compare (a ++ b)) (sym (take-append-drop (length a) c))
      ∙ compare-parts a (take (length a) c) b (drop (length a) c) (sym (length-take-le (length a) c h))

  pub joined-less : compare a (take (length a) c) ≡ less → less ≡ compare (a ++ b) c
  joined-less e = sym (joined-parts ∙ rw e)

  pub joined_greater : compare a (take (length a) c) ≡ greater → greater ≡ compare (a ++ b) c
  joined_greater e = sym (joined-parts ∙ rw e)

  -- the rest of it, as it is lent
  pub joined-equal : compare a (take (length a) c) ≡ equal → compare b (take (length c - length a) (drop (length a) c)) ≡ compare (a ++ b) c
  joined-equal e = ap (compare b) (take_all (length c - length a) (drop (length a) c) (rw (length-drop (length a) c) (omega arith))) ∙ sym (joined-parts ∙ rw e)

-- ---- keys that share bytes with what stands at f

-- the bytes that only the one shares stand from f + s to before f + s'
pub shares-more : (d : List ℕ) (f s s' : ℕ) (x y : Key) → s ≤ s' → compare (take (f + s' - (f + s)) (drop (f + s) d) ++ y) x ≡ compare (take s' (drop f d) ++ y) (take s (drop f d) ++ x)
shares-more d f s s' x y h =
    let n : f + s' - (f + s) ≡ s' - s = omega arith in
    let m : s' ≡ s + (s' - s) = omega arith in
    let split : take s' (drop f d) ≡ take s (drop f d) ++ take (s' - s) (drop (f + s) d) =
    ap (λ (k : ℕ). take k (drop f d)) m ∙ take-add s (s' - s) (drop f d) ∙ ap (λ (l : List ℕ). take s (drop f d) ++ take (s' - s) l) (drop-drop s f d) in
    ap (λ (k : ℕ). compare (take k (drop (f + s) d) ++ y) x) n
    ∙ sym (ap (λ (l : List ℕ). compare (l ++ y) (take s (drop f d) ++ x)) split
    ∙ ap (λ (l : List ℕ). compare l (take s (drop f d) ++ x)) (append_assoc (take s (drop f d)) (take (s' - s) (drop (f + s) d)) y)
    ∙ compare-after (take s (drop f d)) (take (s' - s) (drop (f + s) d) ++ y) x)

-- and of keys that each stand at a place: their suffixes as they are lent
pub keys-lent : (d : List ℕ) (f s at n s' at' n' : ℕ) {o : Ordering}
    → o ≡ compare (take s (drop f d) ++ take (at + n - at) (drop at d)) (take s' (drop f d) ++ take (at' + n' - at') (drop at' d)) → o ≡ compare (key_at d f s at n) (key_at d f s' at' n')
keys-lent d f s at n s' at' n' e =
    let m : at + n - at ≡ n = omega arith in
    let m' : at' + n' - at' ≡ n' = omega arith in
    rw (m, m') at e
