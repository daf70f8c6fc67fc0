-- What each case of an answer says: the words as the cases and structs of the crates below. No two cases say the same.
use Rattle.std.specs.Prelude.{ℕ, List, [], ◌≡◌, Option}
use Rattle.std.proofs.Common.{ap, ap₂}
use Rattle.layout.specs.Res.{Res}
use Rattle.layout_v1.specs.Builder.{Builder}
use Rattle.layout.specs.Row.{Fields}
use Rattle.state_v1.specs.declared.State.{State}
use Rattle.state_v1.specs.Says.{view_from, state_from}
use Rattle.row_flags.specs.Says.{fields_from}
use Rattle.row_flags.specs.declared.RowFields.{RowFields}
use Rattle.row_words.specs.Says.{says_word, says_word-one, fields_from-one}
use Rattle.row_words.specs.declared.Offer.{Offer}
use Rattle.builder_words_v1.specs.Words.{builder_from}

abbrev pub state_in : List ℕ → State
state_in ws = state_from (builder_from ws [])

abbrev pub says_state : Option State → Res State
says_state = says_word (λ s. s)

-- a builder, and what is offered to it or was added with the key
pub record Gain : Type 0 where
  pub builder : Builder
  pub fields : Fields

abbrev pub gain_is : Builder → Fields → Gain
gain_is v f = record { builder = v; fields = f }

abbrev pub gain_from : List ℕ → List ℕ → Offer State → Gain
gain_from first value o = gain_is (view_from o.state first) (fields_from o.row value)

abbrev pub says_offer : List ℕ → List ℕ → Option (Offer State) → Res Gain
says_offer first value = says_word (gain_from first value)

-- ---- one to one

pub says_state-one : (a b : Option State) → says_state a ≡ says_state b → a ≡ b
says_state-one = says_word-one (λ s. s) (λ a b e. e)

gain_from-one : (first value : List ℕ) (a b : Offer State) → gain_from first value a ≡ gain_from first value b → a ≡ b
gain_from-one first value a b e =
    ap₂ (λ (s : State) (f : RowFields). record { state = s; row = f }) (ap (λ (o : Gain). state_from o.builder) e) (fields_from-one value a.row b.row (ap (λ (o : Gain). o.fields) e))

pub says_offer-one : (first value : List ℕ) (a b : Option (Offer State)) → says_offer first value a ≡ says_offer first value b → a ≡ b
says_offer-one first value = says_word-one (gain_from first value) (gain_from-one first value)
