-- The promise admits one outcome: two results, with the words and bytes that they leave, that both keep it
-- are equal; but for the key bytes past the length of the key that a cursor carries after a step.
use Rattle.std.specs.Prelude.{ℕ, Bool, ◌≡◌, List, length}
use Rattle.std.proofs.Common.{sym, ◌∙◌}
use Rattle.block_words.specs.OneOutcome.{SameKey, same_key}
use Rattle.words_plain.specs.Promise.{plain_flat, StepsFlatPlain}

pub plain-next-settled : (b ws key out row : List ℕ) (r q : Bool) (vs us ks ls ys zs rs qs : List ℕ)
    → StepsFlatPlain b ws key out row r vs ks ys rs → StepsFlatPlain b ws key out row q us ls zs qs
    → (r ≡ q) × (vs ≡ us) × SameKey (plain_flat b ws key (length out) row) (λ s. s.cursor) ks ls × (ys ≡ zs) × (rs ≡ qs)
plain-next-settled b ws key out row r q vs us ks ls ys zs rs qs m l = (
  m.answer ∙ sym l.answer,
  m.after.state ∙ sym l.after.state,
  same_key (plain_flat b ws key (length out) row) (λ s. s.cursor) key ks ls m.after.key-bytes l.after.key-bytes,
  m.after.lent ∙ sym l.after.lent,
  m.after.row_words ∙ sym l.after.row_words,
)
