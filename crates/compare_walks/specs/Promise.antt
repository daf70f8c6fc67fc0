-- What both walks promise: the code that is answered, and the two words, as equations to the one definition of a walk.
use Rattle.std.specs.Prelude.{◌≡◌, ℕ, List}
use Rattle.layout.specs.Res.{Res}
use Rattle.compare_walks.specs.Walk.{Walk, walk_block, walk_code, sums_after}

-- a walk that is wanted: the code, and the words that it leaves
pub record Tells (want : Res Walk) (sums : List ℕ) (code : ℕ) (sums' : List ℕ) : Type 0 where
  pub answer : code ≡ walk_code want
  pub words : sums' ≡ sums_after want sums

abbrev pub WalksFlat : List ℕ → ℕ → ℕ → List ℕ → ℕ → List ℕ → Type 0
WalksFlat b order limit sums code sums' = Tells (walk_block b order limit sums) sums code sums'
