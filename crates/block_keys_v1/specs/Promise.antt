-- What each public function promises: equations to the definitions, that settle each number answered.
use Rattle.std.specs.Prelude.{ℕ, ◌≡◌, cond, List, eqb, Result}
use Rattle.basics.specs.Says.{says_order}
use Rattle.basics.specs.declared.Refusal.{Refusal}
use Rattle.basics.specs.declared.IterationOrder.{IterationOrder}
use Rattle.row_decode_v2.specs.Says.{says_key}
use Rattle.row_decode_v2.specs.declared.KeyPlace.{KeyPlace}
use Rattle.trailer.specs.Says.{trailer_from}
use Rattle.trailer.specs.declared.Trailer.{Trailer}
use Rattle.block_keys_v1.specs.declared.Search.{Search}
use Rattle.block_keys_v1.specs.Handed.{first_at, row_found_at}
use Rattle.block_keys_v1.specs.Says.{says_search}

abbrev pub ReadsFirst : List ℕ → Trailer → Result KeyPlace Refusal → Type 0
ReadsFirst b t r = says_key r ≡ first_at b (trailer_from t)

-- as many bytes as `before` leaves of a first key that is so long (`before-length`)
abbrev pub MayShare : ℕ → ℕ → ℕ → Type 0
MayShare i first_len r = r ≡ cond (eqb i 0) 0 first_len

abbrev pub FindsRow : List ℕ → Trailer → IterationOrder → List ℕ → Result Search Refusal → Type 0
FindsRow b t order target r = says_search r ≡ row_found_at b (trailer_from t) (says_order order) target
