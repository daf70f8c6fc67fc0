-- Each promise admits one outcome: two results, with the words and bytes that they leave, that both keep it are equal.
use Rattle.std.specs.Prelude.{ℕ, Bool, ◌≡◌, List, [], Option}
use Rattle.std.proofs.Common.{sym, ◌∙◌}
use Rattle.state_v1.specs.declared.State.{State}
use Rattle.row_words.specs.declared.Offer.{Offer}
use Rattle.builder_words_v1.specs.Says.{says_state-one, says_offer-one}
use Rattle.builder_words_v1.specs.Promise.{LoadsState, PutsState, LoadsOffer}
use Rattle.row_words.specs.OneOutcome.{stores_settled}

pub state_in_settled : (ws : List ℕ) (r q : Option State) → LoadsState ws r → LoadsState ws q → r ≡ q
state_in_settled ws r q m n = says_state-one r q (m ∙ sym n)

pub put-state-settled : (s : State) (ws : List ℕ) (r q : Bool) (ys zs : List ℕ) → PutsState s ws r ys → PutsState s ws q zs → (r ≡ q) × (ys ≡ zs)
put-state-settled s ws r q ys zs m n = stores_settled m n

-- ---- what a call starts from

pub offer_in_settled : (ws first fs : List ℕ) (r q : Option (Offer State)) → LoadsOffer ws first fs r → LoadsOffer ws first fs q → r ≡ q
offer_in_settled ws first fs r q m n = says_offer-one first [] r q (m [] ∙ sym (n []))
