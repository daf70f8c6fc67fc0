-- Each promise admits one outcome: two results that both keep it are equal.
use Rattle.std.specs.Prelude.{ℕ, ◌≡◌, List, Result}
use Rattle.std.proofs.Common.{sym, ◌∙◌}
use Rattle.trailer.specs.declared.Trailer.{Trailer}
use Rattle.basics.specs.declared.Refusal.{Refusal}
use Rattle.block_restarts_v2.specs.declared.Start.{Start}
use Rattle.block_restarts_v2.specs.Promise.{StartsUp, StartsDown}
use Rattle.block_restarts_v2.specs.Says.{says_start-one}

pub find-restart_for_key_ascending_settled : (b : List ℕ) (t : Trailer) (target : List ℕ) (r q : Result Start Refusal) → StartsUp b t target r → StartsUp b t target q → r ≡ q
find-restart_for_key_ascending_settled b t target r q m n = says_start-one r q (m ∙ sym n)

pub find-restart_for_key_descending_settled : (b : List ℕ) (t : Trailer) (target : List ℕ) (r q : Result Start Refusal) → StartsDown b t target r → StartsDown b t target q → r ≡ q
find-restart_for_key_descending_settled b t target r q m n = says_start-one r q (m ∙ sym n)
