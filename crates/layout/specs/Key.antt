-- Keys: their order, what two begin with in common, the order of rows, and the first of a list of keys at or above a target.
use Rattle.std.specs.Prelude.{ℕ, suc, ◌≡◌, Bool, true, false, cond, not, ◌&&◌, ◌||◌, List, [], ◌∷◌, ltb, eqb}
use Rattle.layout.specs.Bytes.{Bytes}

abbrev pub Key : Type 0
Key = Bytes

-- a is smaller than b: at the first byte where they differ, else the shorter is smaller
unfoldable pub below : Key → Key → Bool
below xs [] = false
below [] (y ∷ ys) = true
below (x ∷ xs) (y ∷ ys) = cond (ltb x y) true (cond (ltb y x) false (below xs ys))

-- a equals b: neither is smaller
abbrev pub same : Key → Key → Bool
same a b = cond (below a b) false (not (below b a))

pub data Ordering : Type 0 where
  less equal greater : Ordering

unfoldable pub compare : Key → Key → Ordering
compare a b = cond (below a b) less (cond (below b a) greater equal)

-- how many bytes two keys begin with in common
unfoldable pub common : Key → Key → ℕ
common [] ys = 0
common (x ∷ xs) [] = 0
common (x ∷ xs) (y ∷ ys) = cond (eqb x y) (suc (common xs ys)) 0

-- ---- the order of rows

-- what of a row tells its place in the order: its key and its sequence number
pub record Rank : Type 0 where
  pub key : Key
  pub seq : ℕ

abbrev pub rank_is : Key → ℕ → Rank
rank_is k q = record { key = k; seq = q }

-- before the first row stands none. Its key is empty, and a row that is read has a key, which is greater: so any may be the first, whatever its number (`IsFirst-passes`)
abbrev pub no_rank : Rank
no_rank = rank_is [] 0

-- the order that a block's check asks of two rows, one after the other: the key is greater, or it is the same and the sequence number is smaller
unfoldable pub may_follow : Rank → Rank → Bool
may_follow before row = below before.key row.key || (same before.key row.key && ltb row.seq before.seq)

-- each may follow the one before
abbrev pub Rising : Rank → List Rank → Type 0
Rising before [] = Unit {0}
Rising before (r ∷ rs) = (may_follow before r ≡ true) × Rising r rs

-- ---- over lists of keys

-- how many leading keys pass a test
unfoldable pub leading : (Key → Bool) → List Key → ℕ
leading passes [] = 0
leading passes (k ∷ ks) = cond (passes k) (suc (leading passes ks)) 0

abbrev pub is_below : Key → Key → Bool
is_below target k = below k target

abbrev pub not_above : Key → Key → Bool
not_above target k = not (below target k)

-- where the first key at or above the target stands, or the count of keys; and the first above it
unfoldable pub first_at_or_above : Key → List Key → ℕ
first_at_or_above target ks = leading (is_below target) ks

unfoldable pub first_above : Key → List Key → ℕ
first_above target ks = leading (not_above target) ks
