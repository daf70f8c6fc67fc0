-- The order of rows: what it tells of two neighbours and what tells it; the comparison of their keys, and then of their numbers, as a check makes it; and that any
-- row that has a key may stand first.
use Rattle.std.specs.Prelude.{◌<◌, ◌≤◌, ◌≡◌, Bool, true, false, cond, not, ◌&&◌, ◌||◌, [], ◌∷◌, ◌⊎◌, ltb, length}
use Rattle.std.proofs.Math.Path.{refl}
use Rattle.std.proofs.Common.{⊎_elim, inl, inr, arith, lt-ltb, ltb-true}
use Rattle.layout.specs.Key.{Key, below, equal, greater, compare, Rank, no_rank, may_follow}
use Rattle.layout.proofs.Laws.Res.{bool_cases, clash}
use Rattle.layout.proofs.Laws.Key.{at-most-refl, le_below, below-le, same-is}
use Rattle.layout.specs.Laws.Order.{may_by}

-- a row may follow another exactly if its key is greater, or is the same with a smaller number
pub may-tells : (a b : Rank) → may_follow a b ≡ true → (below a.key b.key ≡ true) ⊎ ((a.key ≡ b.key) × (b.seq < a.seq))
unfolding may_follow
may-tells a b e =
    ⊎_elim inl
    (λ t. inr (same-is a.key b.key t.0, ltb-true b.seq a.seq t.1))
    (go (below a.key b.key) (below b.key a.key) (ltb b.seq a.seq) e)
  where
    go : (p q l : Bool) → p || (cond p false (not q) && l) ≡ true → (p ≡ true) ⊎ ((cond p false (not q) ≡ true) × (l ≡ true))
    go true q l e = inl refl
    go false true l e = absurd (clash e refl)
    go false false l e = inr (refl, e)

pub greater_may : (a b : Rank) → below a.key b.key ≡ true → may_follow a b ≡ true
unfolding may_follow
greater_may a b e = rw e

pub newer-may : (a b : Rank) → a.key ≡ b.key → b.seq < a.seq → may_follow a b ≡ true
unfolding may_follow
newer-may a b k l = rw (k, le_below b.key b.key (at-most-refl b.key), lt-ltb b.seq a.seq l)

-- before the first row stands none, so any that has a key may be the first
pub first-may : (r : Rank) → 1 ≤ length r.key → may_follow no_rank r ≡ true
first-may r h = greater_may no_rank r (some r.key h)
  where
    some : (k : Key) → 1 ≤ length k → below [] k ≡ true
    some [] h = absurd (omega arith)
    some (x ∷ k) h = unfold below in refl

-- a comparison of the keys tells it
pub may-by : (before row : Rank) → may_follow before row ≡ may_by (compare row.key before.key) before.seq row.seq
unfolding may_follow compare
may-by before row = ⊎_elim falls (λ n. rw n (rises (below before.key row.key))) (bool_cases (below row.key before.key))
  where
    falls : below row.key before.key ≡ true → may_follow before row ≡ may_by (compare row.key before.key) before.seq row.seq
    falls y =
        let n : below before.key row.key ≡ false = le_below before.key row.key (below-le row.key before.key y) in
        rw (y, n)

    rises : (y : Bool) → y || (cond y false true && ltb row.seq before.seq) ≡ may_by (cond y greater equal) before.seq row.seq
    rises true = refl
    rises false = refl
