-- Each promise admits one outcome: two results that both keep it are equal.
use Rattle.std.specs.Prelude.{ℕ, ◌≡◌, Bool, List}
use Rattle.std.proofs.Common.{ap₂, sym, ◌∙◌}
use Rattle.match_keys.specs.declared.Matched.{Matched}
use Rattle.match_keys.specs.Promise.{Matches, HoldsUp, HoldsDown}

matched_one : (r q : Matched) → r.len ≡ q.len → r.below ≡ q.below → r ≡ q
matched_one r q l b = ap₂ (λ (n : ℕ) (x : Bool). record { len = n; below = x }) l b

pub match-of-settled : (a b : List ℕ) (r q : Matched) → Matches a b r → Matches a b q → r ≡ q
match-of-settled a b r q m n = matched_one r q (m.len_is ∙ sym n.len_is) (m.below-is ∙ sym n.below-is)

module _ (target : List ℕ) (matched shared : ℕ) (suffix : List ℕ) where
  pub match-up-settled : (r q : Matched) → HoldsUp target matched shared suffix r → HoldsUp target matched shared suffix q → r ≡ q
  match-up-settled r q m n = matched_one r q (m.len_is ∙ sym n.len_is) (m.below-is ∙ sym n.below-is)

  pub match-down-settled : (above : Bool) (r q : Matched) → HoldsDown target matched above shared suffix r → HoldsDown target matched above shared suffix q → r ≡ q
  match-down-settled above r q m n = matched_one r q (m.len_is ∙ sym n.len_is) (m.below-is ∙ sym n.below-is)
