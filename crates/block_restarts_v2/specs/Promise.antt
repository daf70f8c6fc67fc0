-- What each public function promises: an equation to the definitions, that settles each number answered.
use Rattle.std.specs.Prelude.{ℕ, ◌≡◌, List, Result}
use Rattle.trailer.specs.Says.{trailer_from}
use Rattle.trailer.specs.declared.Trailer.{Trailer}
use Rattle.basics.specs.declared.Refusal.{Refusal}
use Rattle.block_restarts_v2.specs.declared.Start.{Start}
use Rattle.block_restarts_v2.specs.Handed.{start_up_at, start_down_at}
use Rattle.block_restarts_v2.specs.Says.{says_start}

abbrev pub StartsUp : List ℕ → Trailer → List ℕ → Result Start Refusal → Type 0
StartsUp b t target r = says_start r ≡ start_up_at b (trailer_from t) target

abbrev pub StartsDown : List ℕ → Trailer → List ℕ → Result Start Refusal → Type 0
StartsDown b t target r = says_start r ≡ start_down_at b (trailer_from t) target
