-- What the contracts and the theorems say by the laws of `Check`: definitions.
use Rattle.std.specs.Prelude.{ℕ, ◌+◌, ◌≤◌, ◌≡◌, List, take}
use Rattle.layout.specs.Key.{rank_is, no_rank}
use Rattle.layout.specs.Trailer.{Trailer}
use Rattle.layout.specs.Check.{passed_is, check_from}
use Rattle.layout.specs.Laws.Carry.{Carries}

pub record Checking (b : List ℕ) (t : Trailer) (at region rows seq : ℕ) (key : List ℕ) (len : ℕ) : Type 0 where
  pub left : ℕ
  pub enough : t.size ≤ at + left
  pub holds : Carries key len
  pub makes : check_from left b t (passed_is at region (rank_is (take len key) seq) rows) ≡ check_from t.size b t (passed_is 0 0 no_rank 0)
