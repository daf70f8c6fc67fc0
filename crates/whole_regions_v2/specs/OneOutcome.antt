-- Each promise admits one outcome: two results that both keep it are equal.
use Rattle.std.specs.Prelude.{ℕ, ◌≡◌, List, Result}
use Rattle.std.proofs.Common.{sym, ◌∙◌}
use Rattle.basics.specs.Answers.{says_same-one}
use Rattle.basics.specs.declared.Refusal.{Refusal}
use Rattle.trailer.specs.declared.Region.{Region}
use Rattle.whole_regions_v2.specs.declared.Last.{Last}
use Rattle.whole_regions_v2.specs.Promise.{EndsLast, CountsRows}
use Rattle.whole_regions_v2.specs.Says.{says_last-one}

pub last-at-or-below-settled : (d : List ℕ) (g : Region) (target : List ℕ) (r q : Result Last Refusal) → EndsLast d g target r → EndsLast d g target q → r ≡ q
last-at-or-below-settled d g target r q m n = says_last-one r q (m ∙ sym n)

pub count-rows-settled : (d : List ℕ) (g : Region) (r q : Result ℕ Refusal) → CountsRows d g r → CountsRows d g q → r ≡ q
count-rows-settled d g r q m n = says_same-one r q (m ∙ sym n)
