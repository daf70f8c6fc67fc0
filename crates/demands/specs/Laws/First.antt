-- The first of a list of keys at or above a target: those before it are below, and it is not. Likewise the first above it.
use Prim.Native.Nat.{ℕ, zero, suc, ◌<◌}
use Rattle.std.specs.Prelude.{◌≡◌, Bool, true, false, length, get_or}
use mathlib.Core.List.{List, [], ◌∷◌}
use Rattle.std.proofs.Math.Logic.{⊎_elim}
use Rattle.std.proofs.Common.{le_of_suc-le-suc, not-suc-le-zero}
use borrow.Author.Tests.{not-true, not-false}
use Rattle.layout.specs.Key.{Key, below, leading, is_below, not_above, first_at_or_above, first_above}
use Rattle.layout.proofs.Laws.Res.{bool_cases}

module _ (p : Key → Bool) where
  leading-before : (xs : List Key) (i : ℕ) → i < leading p xs → p (get_or xs i []) ≡ true
  unfolding leading
  leading-before [] i h = absurd (not-suc-le-zero h)
  leading-before (x ∷ xs) zero h = ⊎_elim (λ e. e) (λ e. absurd (not-suc-le-zero (rw e at h))) (bool_cases (p x))
  leading-before (x ∷ xs) (suc i) h = ⊎_elim (λ e. leading-before xs i (le_of_suc-le-suc (rw e at h))) (λ e. absurd (not-suc-le-zero (rw e at h))) (bool_cases (p x))

  leading-here : (xs : List Key) → leading p xs < length xs → p (get_or xs (leading p xs) []) ≡ false
  unfolding leading
  leading-here [] h = absurd (not-suc-le-zero h)
  leading-here (x ∷ xs) h = ⊎_elim (λ e. rw e (leading-here xs (le_of_suc-le-suc (rw e at h)))) (λ e. rw e e) (bool_cases (p x))

module _ (t : Key) (ks : List Key) where
  pub first-before : (i : ℕ) → i < first_at_or_above t ks → below (get_or ks i []) t ≡ true
  unfolding first_at_or_above
  first-before i h = leading-before (is_below t) ks i h

  pub first-here : first_at_or_above t ks < length ks → below (get_or ks (first_at_or_above t ks) []) t ≡ false
  unfolding first_at_or_above
  first-here h = leading-here (is_below t) ks h

  pub above_before : (i : ℕ) → i < first_above t ks → below t (get_or ks i []) ≡ false
  unfolding first_above
  above_before i h = not-true (below t (get_or ks i [])) (leading-before (not_above t) ks i h)

  pub above-here : first_above t ks < length ks → below t (get_or ks (first_above t ks) []) ≡ true
  unfolding first_above
  above-here h = not-false (below t (get_or ks (leading (not_above t) ks) [])) (leading-here (not_above t) ks h)
