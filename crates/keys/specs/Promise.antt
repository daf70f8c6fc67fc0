-- What each public function promises: equations to the definitions of `layout`, that settle each number answered.
use Rattle.std.specs.Prelude.{ℕ, ◌≡◌, Bool, List}
use Rattle.layout.specs.Key.{below, compare, common}
use Rattle.std.specs.declared.cmp.Ordering.{Ordering}
use Rattle.keys.specs.Says.{says_ordering}

abbrev pub Compares : List ℕ → List ℕ → Ordering → Type 0
Compares a b r = says_ordering r ≡ compare a b

abbrev pub TellsBelow : List ℕ → List ℕ → Bool → Type 0
TellsBelow a b r = r ≡ below a b

abbrev pub Shares : List ℕ → List ℕ → ℕ → Type 0
Shares a b r = r ≡ common a b
