-- The number of a row in its region is how many of the region's rows stand before it: reading on so many rows from the restart comes to it.
-- By the rows before, one at a time: each is the row that is read where the one before it ended.
use Rattle.std.specs.Prelude.{ℕ, zero, suc, refl, length}
use Rattle.std.proofs.Math.Path.{◌≡◌}
use Rattle.std.proofs.Common.{ap, ◌∙◌}
use mathlib.Core.List.{List, [], ◌∷◌, ◌++◌}
use native.Mathlib.Omega.{arith}
use Rattle.layout.specs.Res.{ok}
use Rattle.layout.specs.Key.{Key}
use Rattle.layout.specs.RowRead.{RowRead, key_of}
use Rattle.layout.specs.Trailer.{Region, row_in}
use Rattle.layout.specs.Cursor.{Keyed, keyed}
use Rattle.demands.specs.Reads.{region_rows, row_number}
use Rattle.layout.proofs.Laws.Res.{ok-inj}
use Rattle.demands.specs.Laws.Reads.{RegionIs, over, more, region-is}

module _ (d : List ℕ) (g : Region) where
  pub number-first : (at : ℕ) (before : Key) (r : RowRead) → row_in d g at (length before) ≡ ok r → row_number 0 d g at before ≡ ok (keyed r (key_of d before r))
  unfolding row_number
  number-first at before r e = rw e

  pub number-next : (i at : ℕ) (before : Key) (r : RowRead) → row_in d g at (length before) ≡ ok r → row_number (suc i) d g at before ≡ row_number i d g r.next (key_of d before r)
  unfolding row_number
  number-next i at before r e = rw e

  none_read : (at : ℕ) (before : Key) (k : Keyed) (ks : List Keyed) → region_rows 0 d g at before ≡ ok (k ∷ ks) → ⊥
  unfolding region_rows
  none_read at before k ks e = let w : [] ≡ k ∷ ks = ok-inj e in let z : ◌≡◌ {A = ℕ} 0 1 = cc in omega arith

  pub rows-numbered : (left at : ℕ) (before : Key) (fs : List Keyed) (k : Keyed) (ks : List Keyed) → region_rows left d g at before ≡ ok (fs ++ (k ∷ ks))
      → row_number (length fs) d g at before ≡ ok k
  rows-numbered zero at before [] k ks e = absurd (none_read at before k ks e)
  rows-numbered zero at before (f ∷ fs) k ks e = absurd (none_read at before f (fs ++ (k ∷ ks)) e)
  rows-numbered (suc left) at before [] k ks e = go (k ∷ ks) refl (region-is left d g at before (k ∷ ks) e)
    where
      go : (xs : List Keyed) → xs ≡ k ∷ ks → RegionIs left d g at before xs → row_number 0 d g at before ≡ ok k
      go xs q (over h) = absurd (let z : ◌≡◌ {A = ℕ} 0 1 = cc in omega arith)
      go xs q (more r rs h p u) = let same : keyed r (key_of d before r) ≡ k = cc in rw (← same) (number-first at before r p)
  rows-numbered (suc left) at before (f ∷ fs) k ks e = go (f ∷ (fs ++ (k ∷ ks))) refl (region-is left d g at before (f ∷ (fs ++ (k ∷ ks))) e) (rows-numbered left)
    where
      go : (xs : List Keyed) → xs ≡ f ∷ (fs ++ (k ∷ ks)) → RegionIs left d g at before xs
          → ((at' : ℕ) (before' : Key) (fs' : List Keyed) (k' : Keyed) (ks' : List Keyed) → region_rows left d g at' before' ≡ ok (fs' ++ (k' ∷ ks')) → row_number (length fs') d g at' before' ≡ ok k')
          → row_number (suc (length fs)) d g at before ≡ ok k
      go xs q (over h) ih = absurd (let z : ◌≡◌ {A = ℕ} 0 1 = cc in omega arith)
      go xs q (more r rs h p u) ih =
          let rest : rs ≡ fs ++ (k ∷ ks) = cc in
          number-next (length fs) at before r p ∙ ih r.next (key_of d before r) fs k ks (u ∙ ap (λ (x : List Keyed). ok x) rest)
