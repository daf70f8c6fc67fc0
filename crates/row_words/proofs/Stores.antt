-- Words that are stored one by one, from place 0 on: with as many stored as there are places, the list is what was stored.
-- Each store takes the old word of its place away and leaves the words before it, so once all places are stored none of the old words is left.
use Prim.Native.Nat.{ℕ, suc}
use mathlib.Core.Path.{◌≡◌, refl, ap, ◌∙◌}
use mathlib.Core.List.{List, [], ◌∷◌, ◌++◌}
use native.Mathlib.Omega.{arith}
use lib.ListN.{length, set}

-- the words xs stored one after another, the first at place i
abbrev pub stored : ℕ → List ℕ → List ℕ → List ℕ
stored i ws [] = ws
stored i ws (x ∷ xs) = stored (suc i) (set ws i x) xs

-- stores past the first word leave it
first-stays : (xs : List ℕ) (i w : ℕ) (ws : List ℕ) → stored (suc i) (w ∷ ws) xs ≡ w ∷ stored i ws xs
first-stays [] i w ws = refl
first-stays (x ∷ xs) i w ws = first-stays xs (suc i) w (set ws i x)

pub all-stored : (xs ws : List ℕ) → length ws ≡ length xs → stored 0 ws xs ≡ xs
all-stored [] [] h = refl
all-stored [] (w ∷ ws) h = absurd (omega arith)
all-stored (x ∷ xs) [] h = absurd (omega arith)
all-stored (x ∷ xs) (w ∷ ws) h = first-stays xs 0 x ws ∙ ap (λ (ys : List ℕ). x ∷ ys) (all-stored xs ws (omega arith))

-- behind words that are there
pub stored-behind : (xs ys zs : List ℕ) → length ys ≡ length zs → stored (length xs) (xs ++ ys) zs ≡ xs ++ zs
stored-behind [] ys zs h = all-stored zs ys h
stored-behind (x ∷ xs) ys zs h = first-stays zs (length xs) x (xs ++ ys) ∙ ap (λ (l : List ℕ). x ∷ l) (stored-behind xs ys zs h)
