-- Each promise admits one outcome: two results, with the words and bytes that they leave, that both keep it are equal.
use Rattle.std.specs.Prelude.{ℕ, Bool, ◌≡◌, List, [], Option}
use Rattle.std.proofs.Common.{sym, ◌∙◌}
use Rattle.layout.specs.Key.{Key}
use Rattle.state_v2.specs.declared.State.{State}
use Rattle.row_words.specs.declared.Offer.{Offer}
use Rattle.builder_words.specs.Says.{says_state-one, says_offer-one}
use Rattle.builder_words.specs.Promise.{LoadsState, PutsState, LoadsOffer}
use Rattle.builder_words.specs.Exports.{AddsFlat}
use Rattle.row_words.specs.OneOutcome.{stores_settled}

pub state_in_settled : (ws : List ℕ) (r q : Option State) → LoadsState ws r → LoadsState ws q → r ≡ q
state_in_settled ws r q m n = says_state-one r q (m ∙ sym n)

pub put-state-settled : (s : State) (ws : List ℕ) (r q : Bool) (ys zs : List ℕ) → PutsState s ws r ys → PutsState s ws q zs → (r ≡ q) × (ys ≡ zs)
put-state-settled s ws r q ys zs m n = stores_settled m n

-- ---- what a call starts from

pub offer_in_settled : (ws last fs : List ℕ) (r q : Option (Offer State)) → LoadsOffer ws last fs r → LoadsOffer ws last fs q → r ≡ q
offer_in_settled ws last fs r q m n = says_offer-one last [] r q (m [] ∙ sym (n []))

-- ---- the exports of the crates above

-- adding a row, in place and by value
pub builder-add-settled : (ws last bytes places : List ℕ) (key : Key) (value fs : List ℕ) (c d : ℕ) (vs ws' ks ls ys zs os ps : List ℕ)
    → AddsFlat ws last bytes places key value fs c vs ks ys os → AddsFlat ws last bytes places key value fs d ws' ls zs ps
    → (c ≡ d) × (vs ≡ ws') × (ks ≡ ls) × (ys ≡ zs) × (os ≡ ps)
builder-add-settled ws last bytes places key value fs c d vs ws' ks ls ys zs os ps a b = (
  a.answer ∙ sym b.answer,
  a.state ∙ sym b.state,
  a.last-after ∙ sym b.last-after,
  a.bytes_after ∙ sym b.bytes_after,
  a.places-after ∙ sym b.places-after,
)
