-- The promise admits one outcome: two codes, with the words, numbers and bytes that they leave, that both keep it are equal; but for the key bytes past the
-- length of the key that the cursor carries.
use Rattle.std.specs.Prelude.{ℕ, ◌≡◌, List, length}
use Rattle.std.proofs.Common.{sym, ◌∙◌}
use Rattle.layout.specs.Res.{Res, bind}
use Rattle.layout.specs.Limits.{max_key}
use Rattle.row_words.specs.Words.{counted, cursor_in}
use Rattle.block_words.specs.OneOutcome.{SameKey, same_key}
use Rattle.block_rows_v2.specs.Rows.{Run, next_rows}
use Rattle.block_rows_v2.specs.Promise.{RowsAs, most_rows, RowsFlat}

as_settled : (want : Res Run) {ws key keys rows : List ℕ} {n c d : ℕ} {vs us ks ls xs ys ps qs : List ℕ} {m l : ℕ}
    → RowsAs want ws key keys rows n c vs ks xs ps m → RowsAs want ws key keys rows n d us ls ys qs l
    → (c ≡ d) × (vs ≡ us) × SameKey want (λ r. r.cursor) ks ls × (xs ≡ ys) × (ps ≡ qs) × (m ≡ l)
as_settled want {key = key} {ks = ks} {ls = ls} a b = (
  a.answer ∙ sym b.answer,
  a.state ∙ sym b.state,
  same_key want (λ r. r.cursor) key ks ls a.key-bytes b.key-bytes,
  a.keys-given ∙ sym b.keys-given,
  a.row_words ∙ sym b.row_words,
  a.number ∙ sym b.number,
)

pub next-rows-settled : (b ws key keys rows : List ℕ) (n c d : ℕ) (vs us ks ls xs ys ps qs : List ℕ) (m l : ℕ)
    → RowsFlat b ws key keys rows n c vs ks xs ps m → RowsFlat b ws key keys rows n d us ls ys qs l
    → (c ≡ d) × (vs ≡ us) × SameKey (counted key max_key (bind (cursor_in ws key) λ k. next_rows (most_rows rows) k b (length keys))) (λ r. r.cursor) ks ls
    × (xs ≡ ys) × (ps ≡ qs) × (m ≡ l)
next-rows-settled b ws key keys rows n c d vs us ks ls xs ys ps qs m l p q = as_settled (counted key max_key (bind (cursor_in ws key) λ k. next_rows (most_rows rows) k b (length keys))) p q
