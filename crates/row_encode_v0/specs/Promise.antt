-- What the public function promises: an equation to the definitions of `layout_v1`, that settles the number answered and each byte lent.
use Rattle.std.specs.Prelude.{ℕ, List, length, Result}
use Rattle.layout_v1.specs.Row.{encode_row}
use Rattle.basics.specs.Answers.{says_same}
use Rattle.basics.specs.declared.Refusal.{Refusal}
use Rattle.row_flags.specs.declared.RowFields.{RowFields}
use Rattle.row_flags.specs.Says.{fields_from}
use Rattle.row_size_v2.specs.Promise.{Lays}

abbrev pub Encodes : ℕ → ℕ → List ℕ → List ℕ → RowFields → List ℕ → Result ℕ Refusal → List ℕ → Type 0
Encodes first_len shared suffix value row out r out' = Lays (encode_row first_len shared suffix (fields_from row value) (length out)) out (says_same r) out'
