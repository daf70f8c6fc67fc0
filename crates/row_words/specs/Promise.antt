-- What each public function promises: equations to the definitions, that settle each case and number answered and each word and byte lent.
use Rattle.std.specs.Prelude.{ℕ, Bool, cond, ◌≡◌, List, eqb, length, Option}
use Rattle.basics.specs.Says.{says_order}
use Rattle.basics.specs.declared.IterationOrder.{IterationOrder}
use Rattle.row_decode_v2.specs.Says.{row_from}
use Rattle.row_decode_v2.specs.declared.Row.{Row}
use Rattle.row_flags.specs.declared.RowFields.{RowFields}
use Rattle.row_words.specs.Words.{truth_word, order_in, order_word, fields_in, single_words, row_words_of, truth_in, single_count, row_count}
use Rattle.row_words.specs.Says.{says_fields, says_truth, says_ordered}

-- a store of n words: whether there were as many, and what they are then; others are left
pub record Stores (n : ℕ) (new ws : List ℕ) (r : Bool) (ws' : List ℕ) : Type 0 where
  pub answer : r ≡ eqb (length ws) n
  pub state : ws' ≡ cond (eqb (length ws) n) new ws

abbrev pub LoadsTruth : ℕ → Option Bool → Type 0
LoadsTruth w r = says_truth r ≡ truth_in w

abbrev pub TellsTruth : Bool → ℕ → Type 0
TellsTruth b r = r ≡ truth_word b

abbrev pub LoadsOrder : ℕ → Option IterationOrder → Type 0
LoadsOrder w r = says_ordered r ≡ order_in w

abbrev pub TellsOrder : IterationOrder → ℕ → Type 0
TellsOrder o r = r ≡ order_word (says_order o)

-- whatever value is offered with them
abbrev pub LoadsFields : List ℕ → Option RowFields → Type 0
LoadsFields ws r = (v : List ℕ) → says_fields v r ≡ fields_in ws v

abbrev pub PutsSingle : Row → List ℕ → Bool → List ℕ → Type 0
PutsSingle row ws r ws' = Stores single_count (single_words (row_from row)) ws r ws'

abbrev pub PutsRow : ℕ → ℕ → Row → List ℕ → Bool → List ℕ → Type 0
PutsRow region number row ws r ws' = Stores row_count (row_words_of region number (row_from row)) ws r ws'
