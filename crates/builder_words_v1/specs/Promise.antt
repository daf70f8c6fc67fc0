-- What each public function promises: equations to the definitions, that settle each case and number answered and each word and byte lent.
use Rattle.std.specs.Prelude.{ℕ, Bool, ◌≡◌, List, [], Option}
use Rattle.layout.specs.Res.{Res, ok, bind}
use Rattle.layout.specs.Limits.{max_key}
use Rattle.state_v1.specs.Says.{view_from}
use Rattle.state_v1.specs.declared.State.{State}
use Rattle.row_words.specs.declared.Offer.{Offer}
use Rattle.row_words.specs.Words.{counted, fields_in}
use Rattle.builder_words_v1.specs.Words.{builder_from, builder_words, builder_count}
use Rattle.builder_words_v1.specs.Says.{says_state, state_in, Gain, gain_is, says_offer}
use Rattle.row_words.specs.Promise.{Stores}

abbrev pub LoadsState : List ℕ → Option State → Type 0
LoadsState ws r = says_state r ≡ counted ws builder_count (ok (state_in ws))

abbrev pub PutsState : State → List ℕ → Bool → List ℕ → Type 0
PutsState s ws r ws' = Stores builder_count (builder_words (view_from s [])) ws r ws'

-- ---- what a call starts from

abbrev pub offer_in : List ℕ → List ℕ → List ℕ → List ℕ → Res Gain
offer_in ws first fs value = counted ws builder_count (counted first max_key (bind (fields_in fs value) λ f. ok (gain_is (builder_from ws first) f)))

-- whatever value is offered
abbrev pub LoadsOffer : List ℕ → List ℕ → List ℕ → Option (Offer State) → Type 0
LoadsOffer ws first fs r = (value : List ℕ) → says_offer first value r ≡ offer_in ws first fs value
