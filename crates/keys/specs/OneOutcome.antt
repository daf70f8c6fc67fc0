-- Each promise admits one outcome: two results that both keep it are equal.
use Rattle.std.specs.Prelude.{ℕ, ◌≡◌, Bool, List}
use Rattle.std.proofs.Common.{sym, ◌∙◌}
use Rattle.std.specs.declared.cmp.Ordering.{Ordering}
use Rattle.keys.specs.Promise.{Compares, TellsBelow, Shares}
use Rattle.keys.specs.Says.{says_ordering-one}

module _ (a b : List ℕ) where
  pub compare-settled : (r q : Ordering) → Compares a b r → Compares a b q → r ≡ q
  compare-settled r q m n = says_ordering-one r q (m ∙ sym n)

  pub is-below-settled : (r q : Bool) → TellsBelow a b r → TellsBelow a b q → r ≡ q
  is-below-settled r q m n = m ∙ sym n

  pub common-prefix-settled : (r q : ℕ) → Shares a b r → Shares a b q → r ≡ q
  common-prefix-settled r q m n = m ∙ sym n
