-- A target held against one key after another, by what is known of the key before: how many bytes it has in common with the target (the match), and how it
-- stands to it. A row that shares more than the match stands to the target as the key before did; of one that shares less or as much, only the suffix is
-- held against what is left of the target. So a walk needs no key, only the match.
use Prim.Native.Nat.{ℕ, zero, suc, ◌+◌, ◌<◌, ◌≤◌}
use Rattle.std.specs.Prelude.{◌≡◌, true, false, ltb, length, take, drop, get_or}
use Rattle.std.proofs.Math.Path.{refl}
use Rattle.std.proofs.Common.{ap, sym, ◌∙◌, arith, zero-add, suc-add, take-append-drop, length-take-le}
use mathlib.Core.List.{[], ◌∷◌, ◌++◌}
use Rattle.std.proofs.Math.Logic.{⊎_elim}
use borrow.Author.Tests.{lt-ltb, le-ltb, eq-eqb, ne_eqb}
use Rattle.layout.specs.Key.{Key, below, common}
use Rattle.layout.proofs.Laws.Res.{ltb-cases, eqb-cases}
use Rattle.layout.proofs.Laws.Carry.{below-after}
use Rattle.layout.proofs.Laws.Key.{common-left}
use Rattle.layout.specs.Laws.Match.{above_after, below_after, match_after}

-- ---- both ways round

pub common-sym : (a b : Key) → common a b ≡ common b a
unfolding common
common-sym [] [] = refl
common-sym [] (y ∷ ys) = refl
common-sym (x ∷ xs) [] = refl
common-sym (x ∷ xs) (y ∷ ys) =
    ⊎_elim
    (λ t. rw (t.0, eq-eqb y x (sym t.1)) (ap suc (common-sym xs ys)))
    (λ t. rw (t.0, ne_eqb y x (λ e. t.1 (sym e))))
    (eqb-cases x y)

pub common-none : (target : Key) → common [] target ≡ 0
unfolding common
common-none target = refl

-- ---- a row that shares more than the match

-- at the byte after the match both differ, or the target ends
module _ (suffix : Key) where
  pub past-common : (before target : Key) (s : ℕ) → common before target < s → s ≤ length before → common (take s before ++ suffix) target ≡ common before target
  unfolding common
  past-common [] target s h k = absurd (omega arith)
  past-common (x ∷ xs) target zero h k = absurd (omega arith)
  past-common (x ∷ xs) [] (suc s) h k = refl
  past-common (x ∷ xs) (y ∷ ys) (suc s) h k =
      ⊎_elim
      (λ t. rw t.0 (ap suc (past-common xs ys s (let h' = rw t.0 at h in omega arith) (omega arith))))
      (λ t. rw t.0)
      (eqb-cases x y)

  pub past-below : (before target : Key) (s : ℕ) → common before target < s → s ≤ length before → below (take s before ++ suffix) target ≡ below before target
  unfolding common below
  past-below [] target s h k = absurd (omega arith)
  past-below (x ∷ xs) target zero h k = absurd (omega arith)
  past-below (x ∷ xs) [] (suc s) h k = refl
  past-below (x ∷ xs) (y ∷ ys) (suc s) h k =
      ⊎_elim
      (λ t. rw (le-ltb x y (omega (arith, t.1)), le-ltb y x (omega (arith, t.1))) (past-below xs ys s (let h' = rw t.0 at h in omega arith) (omega arith)))
      (λ t. ⊎_elim (λ u. rw u.0) (λ u. rw (u.0, lt-ltb y x (let n = t.1 in omega (arith, u.1, n)))) (ltb-cases x y))
      (eqb-cases x y)

  -- the other way round
  pub past-above : (before target : Key) (s : ℕ) → common before target < s → s ≤ length before → below target (take s before ++ suffix) ≡ below target before
  unfolding common below
  past-above [] target s h k = absurd (omega arith)
  past-above (x ∷ xs) target zero h k = absurd (omega arith)
  past-above (x ∷ xs) [] (suc s) h k = refl
  past-above (x ∷ xs) (y ∷ ys) (suc s) h k =
      ⊎_elim
      (λ t. rw (le-ltb x y (omega (arith, t.1)), le-ltb y x (omega (arith, t.1))) (past-above xs ys s (let h' = rw t.0 at h in omega arith) (omega arith)))
      (λ t. ⊎_elim (λ u. rw u.0) (λ u. rw (u.0, lt-ltb x y (let n = t.1 in omega (arith, u.1, n)))) (ltb-cases y x))
      (eqb-cases x y)

-- ---- a row that shares as much as the match, or less

-- then as many bytes of the key before are the target's
pub match-take : (before target : Key) (s : ℕ) → s ≤ common before target → take s before ≡ take s target
unfolding common
match-take before target zero h = refl
match-take [] target (suc s) h = absurd (omega arith)
match-take (x ∷ xs) [] (suc s) h = absurd (omega arith)
match-take (x ∷ xs) (y ∷ ys) (suc s) h =
    ⊎_elim
    (λ t. cc (t.1, match-take xs ys s (let h' = rw t.0 at h in omega arith)))
    (λ t. let h' = rw t.0 at h in absurd (omega arith))
    (eqb-cases x y)

common-after : (p a b : Key) → common (p ++ a) (p ++ b) ≡ length p + common a b
unfolding common
common-after [] a b = sym (zero-add (common a b))
common-after (x ∷ p) a b = rw (eq-eqb x x refl) (ap suc (common-after p a b) ∙ sym (suc-add (length p) (common a b)))

module _ (suffix before target : Key) (s : ℕ) (h : s ≤ common before target) where
  split : take s before ++ drop s target ≡ target
  split = rw (match-take before target s h) (take-append-drop s target)

  pub on-common : common (take s before ++ suffix) target ≡ s + common suffix (drop s target)
  on-common =
      ap (common (take s before ++ suffix)) (sym split) ∙ common-after (take s before) suffix (drop s target)
      ∙ ap (λ (n : ℕ). n + common suffix (drop s target)) (length-take-le s before (omega (arith, common-left before target)))

  pub on_below : below (take s before ++ suffix) target ≡ below suffix (drop s target)
  on_below = ap (below (take s before ++ suffix)) (sym split) ∙ below-after (take s before) suffix (drop s target)

  pub on-above : below target (take s before ++ suffix) ≡ below (drop s target) suffix
  on-above = ap (λ (k : Key). below k (take s before ++ suffix)) (sym split) ∙ below-after (take s before) (drop s target) suffix

-- ---- how two keys stand to each other, by the byte after what they have in common

pub match-ended : (a b : Key) → length b ≤ common a b → below a b ≡ false
unfolding common below
match-ended a [] h = refl
match-ended [] (y ∷ ys) h = absurd (omega arith)
match-ended (x ∷ xs) (y ∷ ys) h =
    ⊎_elim
    (λ t. rw (le-ltb x y (omega (arith, t.1)), le-ltb y x (omega (arith, t.1))) (match-ended xs ys (let h' = rw t.0 at h in omega arith)))
    (λ t. let h' = rw t.0 at h in absurd (omega arith))
    (eqb-cases x y)

pub match-short : (a b : Key) → length a ≤ common a b → common a b < length b → below a b ≡ true
unfolding common below
match-short a [] h k = absurd (omega arith)
match-short [] (y ∷ ys) h k = refl
match-short (x ∷ xs) (y ∷ ys) h k =
    ⊎_elim
    (λ t. rw (le-ltb x y (omega (arith, t.1)), le-ltb y x (omega (arith, t.1))) (match-short xs ys (let h' = rw t.0 at h in omega arith) (let k' = rw t.0 at k in omega arith)))
    (λ t. let h' = rw t.0 at h in absurd (omega arith))
    (eqb-cases x y)

pub match-byte : (a b : Key) → common a b < length a → common a b < length b → below a b ≡ ltb (get_or a (common a b) 0) (get_or b (common a b) 0)
unfolding common below
match-byte a [] h k = absurd (omega arith)
match-byte [] (y ∷ ys) h k = absurd (omega arith)
match-byte (x ∷ xs) (y ∷ ys) h k =
    ⊎_elim
    (λ t. rw (t.0, le-ltb x y (omega (arith, t.1)), le-ltb y x (omega (arith, t.1))) (match-byte xs ys (let h' = rw t.0 at h in omega arith) (let k' = rw t.0 at k in omega arith)))
    (λ t. ⊎_elim (λ u. rw (t.0, u.0)) (λ u. rw (t.0, u.0, lt-ltb y x (let n = t.1 in omega (arith, u.1, n)))) (ltb-cases x y))
    (eqb-cases x y)

-- ---- the match and the order of a row, by those of the key before

module _ (before target : Key) (s : ℕ) (suffix : Key) (h : s ≤ length before) where
  pub match_is : common (take s before ++ suffix) target ≡ match_after target (common before target) s suffix
  match_is =
      ⊎_elim
      (λ t. rw t.0 (past-common suffix before target s t.1 h))
      (λ t. rw t.0 (on-common suffix before target s t.1))
      (ltb-cases (common before target) s)

  pub below-is : (common before target < s → below before target ≡ true) → below (take s before ++ suffix) target ≡ below_after target (common before target) s suffix
  below-is u =
      ⊎_elim
      (λ t. rw t.0 (past-below suffix before target s t.1 h ∙ u t.1))
      (λ t. rw t.0 (on_below suffix before target s t.1))
      (ltb-cases (common before target) s)

  pub above-is : below target (take s before ++ suffix) ≡ above_after target (common before target) (below target before) s suffix
  above-is =
      ⊎_elim
      (λ t. rw t.0 (past-above suffix before target s t.1 h))
      (λ t. rw t.0 (on-above suffix before target s t.1))
      (ltb-cases (common before target) s)
