-- Rows in order, by their numbers: each may follow every one before it. Then rows whose keys never fall, which is less, and how many of them, from the first on, pass a test: the rows before
-- one that is below a target are below it, and so on.
use Prim.Native.Nat.{ℕ, zero, suc, ◌+◌, ◌<◌, ◌≤◌, zero-le, suc-le-suc}
use Rattle.std.specs.Prelude.{◌≡◌, refl, Bool, true, false, not, length, get_or}
use Rattle.std.proofs.Common.{ap, ◌∙◌, arith, le_of_suc-le-suc, not-suc-le-zero, suc-add, zero-add}
use Rattle.std.proofs.Math.Path.{sym}
use mathlib.Core.List.{List, [], ◌∷◌, ◌++◌}
use Rattle.std.proofs.Math.Logic.{⊎_elim}
use Rattle.layout.specs.Key.{Key, below, Rank, rank_is, no_rank, may_follow, Rising, leading, is_below, not_above}
use Rattle.layout.specs.Cursor.{Keyed}
use Rattle.demands.specs.Reads.{ranks_of, AllOf, keys_of}
use Rattle.layout.proofs.Laws.Res.{bool_cases, clash}
use Rattle.layout.specs.Laws.Key.{AtMost}
use Rattle.layout.proofs.Laws.Key.{at-most-refl, at-most-trans, below_false, le_below, below-le, below-trans, below-most}
use Rattle.layout.proofs.Laws.Order.{may-tells, greater_may, newer-may}

-- ---- rows in order

-- the key of a row that may follow is no smaller; and where it is the same, the number is smaller
pub may-at-most : (a b : Rank) → may_follow a b ≡ true → AtMost a.key b.key
may-at-most a b e = ⊎_elim (below-le a.key b.key) (λ k. rw k.0 (at-most-refl b.key)) (may-tells a b e)

pub may-newer : (a b : Rank) → may_follow a b ≡ true → a.key ≡ b.key → b.seq < a.seq
may-newer a b e k =
    ⊎_elim
    (λ l. absurd (clash (rw k at l) (le_below b.key b.key (at-most-refl b.key))))
    (λ n. n.1)
    (may-tells a b e)

pub may-trans : (a b c : Rank) → may_follow a b ≡ true → may_follow b c ≡ true → may_follow a c ≡ true
may-trans a b c p q =
    ⊎_elim
    (λ l. greater_may a c (below-most a.key b.key c.key l (may-at-most b c q)))
    (λ n.
    ⊎_elim
    (λ l. greater_may a c (rw n.0 l))
    (λ m. newer-may a c (n.0 ∙ m.0) (omega (arith, n.1, m.1)))
    (may-tells b c q))
    (may-tells a b p)

rising-from : (a : Rank) (rs : List Rank) → Rising a rs → (j : ℕ) → j < length rs → may_follow a (get_or rs j no_rank) ≡ true
rising-from a [] o j h = absurd (not-suc-le-zero h)
rising-from a (r ∷ rs) o zero h = o.0
rising-from a (r ∷ rs) o (suc j) h = may-trans a r (get_or rs j no_rank) o.0 (rising-from r rs o.1 j (omega arith))

-- each row may follow every one before it, wherever the two stand
pub rising-by : (a : Rank) (rs : List Rank) → Rising a rs → (i j : ℕ) → i < j → j < length rs → may_follow (get_or rs i no_rank) (get_or rs j no_rank) ≡ true
rising-by a [] o i j h l = absurd (not-suc-le-zero l)
rising-by a (r ∷ rs) o i zero h l = absurd (not-suc-le-zero h)
rising-by a (r ∷ rs) o zero (suc j) h l = rising-from r rs o.1 j (omega arith)
rising-by a (r ∷ rs) o (suc i) (suc j) h l = rising-by r rs o.1 i j (omega arith) (omega arith)

-- ---- rows that all pass a test

abbrev pub AllPass : (Key → Bool) → List Keyed → Type 0
AllPass p ks = AllOf (λ (k : Keyed). p k.key ≡ true) ks

module _ (p : Key → Bool) where
  -- leading rows that pass are counted whole
  pub leading-all : (xs ys : List Keyed) → AllPass p xs → leading p (keys_of (xs ++ ys)) ≡ length xs + leading p (keys_of ys)
  unfolding leading
  leading-all [] ys a = sym (zero-add (leading p (keys_of ys)))
  leading-all (x ∷ xs) ys a = rw (a.0, leading-all xs ys a.1) (sym (suc-add (length xs) (leading p (keys_of ys))))

  pub leading-most : (ks : List Keyed) → leading p (keys_of ks) ≤ length ks
  unfolding leading
  leading-most [] = zero-le
  leading-most (k ∷ ks) = ⊎_elim (λ e. rw e (suc-le-suc (leading-most ks))) (λ e. rw e zero-le) (bool_cases (p k.key))

  pub leading_step : (k : Keyed) (ks : List Keyed) → p k.key ≡ true → leading p (keys_of (k ∷ ks)) ≡ suc (leading p (keys_of ks))
  unfolding leading
  leading_step k ks e = rw e

  pub leading-stop : (k : Keyed) (ks : List Keyed) → p k.key ≡ false → leading p (keys_of (k ∷ ks)) ≡ 0
  unfolding leading
  leading-stop k ks e = rw e

  -- the count does not see past a row that fails within
  pub leading-within : (xs ys : List Keyed) → leading p (keys_of xs) < length xs → leading p (keys_of (xs ++ ys)) ≡ leading p (keys_of xs)
  unfolding leading
  leading-within [] ys h = absurd (not-suc-le-zero h)
  leading-within (x ∷ xs) ys h =
      ⊎_elim (λ e. rw e (ap suc (leading-within xs ys (le_of_suc-le-suc (rw e at h))))) (λ e. rw e) (bool_cases (p x.key))

  -- all pass where the count is the length
  pub leading-whole : (ks : List Keyed) → leading p (keys_of ks) ≡ length ks → AllPass p ks
  unfolding leading
  leading-whole [] e = tt
  leading-whole (k ∷ ks) e =
      ⊎_elim
      (λ t. (t, leading-whole ks (omega (arith, rw t at e))))
      (λ t. absurd (omega (arith, rw t at e)))
      (bool_cases (p k.key))

-- ---- keys that never fall: all that a seek needs of the order of rows

abbrev pub NeverFall : Key → List Keyed → Type 0
NeverFall before [] = Unit {0}
NeverFall before (k ∷ ks) = (below k.key before ≡ false) × NeverFall k.key ks

pub may-not-below : (a b : Rank) → may_follow a b ≡ true → below b.key a.key ≡ false
may-not-below a b e = le_below b.key a.key (may-at-most a b e)

pub rising-never-falls : (a : Rank) (ks : List Keyed) → Rising a (ranks_of ks) → NeverFall a.key ks
rising-never-falls a [] o = tt
rising-never-falls a (k ∷ ks) o = (may-not-below a (rank_is k.key k.row.seq) o.0, rising-never-falls (rank_is k.key k.row.seq) ks o.1)

-- what stands before is at most what stands after
pub rises : (a : Key) (xs : List Keyed) (k : Keyed) (ys : List Keyed) → NeverFall a (xs ++ (k ∷ ys)) → AtMost a k.key
rises a [] k ys o = below_false k.key a o.0
rises a (x ∷ xs) k ys o = at-most-trans a x.key k.key (below_false x.key a o.0) (rises x.key xs k ys o.1)

pub falls-on : (a : Key) (xs ys : List Keyed) → NeverFall a (xs ++ ys) → (b : Key) × NeverFall b ys
falls-on a [] ys o = (a, o)
falls-on a (x ∷ xs) ys o = falls-on x.key xs ys o.1

pub falls-first : (a : Key) (xs ys : List Keyed) → NeverFall a (xs ++ ys) → NeverFall a xs
falls-first a [] ys o = tt
falls-first a (x ∷ xs) ys o = (o.0, falls-first x.key xs ys o.1)

-- the rows before one that is below the target are below it; before one at most it, not above it
pub all-below : (target a : Key) (xs : List Keyed) (k : Keyed) (ys : List Keyed) → NeverFall a (xs ++ (k ∷ ys)) → below k.key target ≡ true → AllPass (is_below target) xs
all-below target a [] k ys o e = tt
all-below target a (x ∷ xs) k ys o e = (below-trans x.key k.key target (rises x.key xs k ys o.1) e, all-below target x.key xs k ys o.1 e)

pub none_above : (target a : Key) (xs : List Keyed) (k : Keyed) (ys : List Keyed) → NeverFall a (xs ++ (k ∷ ys)) → AtMost k.key target → AllPass (not_above target) xs
none_above target a [] k ys o e = tt
none_above target a (x ∷ xs) k ys o e =
    (ap not (le_below target x.key (at-most-trans x.key k.key target (rises x.key xs k ys o.1) e)), none_above target x.key xs k ys o.1 e)

-- once a row is above the target, so are those after it
pub above_on : (target a : Key) (ks : List Keyed) → NeverFall a ks → below target a ≡ true → leading (not_above target) (keys_of ks) ≡ 0
unfolding leading
above_on target a [] o e = refl
above_on target a (k ∷ ks) o e =
    rw (below-most target a k.key e (below_false k.key a o.0))
