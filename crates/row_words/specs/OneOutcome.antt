-- Each promise admits one outcome: two results, with the words that they leave, that both keep it are equal.
use Rattle.std.specs.Prelude.{ℕ, Bool, ◌≡◌, List, [], Option}
use Rattle.std.proofs.Common.{sym, ◌∙◌}
use Rattle.basics.specs.declared.IterationOrder.{IterationOrder}
use Rattle.row_decode_v2.specs.declared.Row.{Row}
use Rattle.row_flags.specs.declared.RowFields.{RowFields}
use Rattle.row_words.specs.Says.{says_fields-one, says_truth-one, says_ordered-one}
use Rattle.row_words.specs.Promise.{Stores, TellsTruth, LoadsFields, PutsSingle, PutsRow, LoadsTruth, LoadsOrder, TellsOrder}

pub stores_settled : {n : ℕ} {new ws : List ℕ} {r q : Bool} {ys zs : List ℕ} → Stores n new ws r ys → Stores n new ws q zs → (r ≡ q) × (ys ≡ zs)
stores_settled a b = (a.answer ∙ sym b.answer, a.state ∙ sym b.state)

pub truth_in_settled : (w : ℕ) (r q : Option Bool) → LoadsTruth w r → LoadsTruth w q → r ≡ q
truth_in_settled w r q m n = says_truth-one r q (m ∙ sym n)

pub truth_word-settled : (b : Bool) (r q : ℕ) → TellsTruth b r → TellsTruth b q → r ≡ q
truth_word-settled b r q m n = m ∙ sym n

pub order_in_settled : (w : ℕ) (r q : Option IterationOrder) → LoadsOrder w r → LoadsOrder w q → r ≡ q
order_in_settled w r q m n = says_ordered-one r q (m ∙ sym n)

pub order_word-settled : (o : IterationOrder) (r q : ℕ) → TellsOrder o r → TellsOrder o q → r ≡ q
order_word-settled o r q m n = m ∙ sym n

pub fields_in_settled : (ws : List ℕ) (r q : Option RowFields) → LoadsFields ws r → LoadsFields ws q → r ≡ q
fields_in_settled ws r q m n = says_fields-one [] r q (m [] ∙ sym (n []))

pub put-single-settled : (row : Row) (ws : List ℕ) (r q : Bool) (ys zs : List ℕ) → PutsSingle row ws r ys → PutsSingle row ws q zs → (r ≡ q) × (ys ≡ zs)
put-single-settled row ws r q ys zs m n = stores_settled m n

pub put-row-settled : (region number : ℕ) (row : Row) (ws : List ℕ) (r q : Bool) (ys zs : List ℕ) → PutsRow region number row ws r ys → PutsRow region number row ws q zs
    → (r ≡ q) × (ys ≡ zs)
put-row-settled region number row ws r q ys zs m n = stores_settled m n
