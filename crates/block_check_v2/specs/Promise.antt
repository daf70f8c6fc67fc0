-- What the public functions promise: the definition's answer, for any bytes; and the order of two rows, by that of their keys and their numbers.
use Rattle.std.specs.Prelude.{ℕ, ◌≡◌, Bool, List, Result}
use Rattle.layout.specs.Check.{check}
use Rattle.layout.specs.Laws.Order.{may_by}
use Rattle.keys.specs.Says.{says_ordering}
use Rattle.std.specs.declared.cmp.Ordering.{Ordering}
use Rattle.basics.specs.Answers.{says_same}
use Rattle.basics.specs.declared.Refusal.{Refusal}

abbrev pub Checks : List ℕ → Result ℕ Refusal → Type 0
Checks b r = says_same r ≡ check b

abbrev pub MayFollow : Ordering → ℕ → ℕ → Bool → Type 0
MayFollow order before seq r = r ≡ may_by (says_ordering order) before seq
