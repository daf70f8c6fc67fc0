-- The promise admits one outcome: two codes, with the words, numbers and bytes that they leave, that both keep it are equal; but for the key bytes past the length
-- of the key that a sought cursor carries.
use Rattle.std.specs.Prelude.{ℕ, ◌≡◌, List}
use Rattle.std.proofs.Common.{sym, ◌∙◌}
use Rattle.layout.specs.Res.{bind}
use Rattle.layout.specs.Limits.{max_key}
use Rattle.layout.specs.Seek.{seek}
use Rattle.row_words.specs.Words.{counted, cursor_in}
use Rattle.block_words.specs.OneOutcome.{SameKey, same_key}
use Rattle.seek_words.specs.Promise.{SeeksFlat}

pub seek-settled : (b target ws key : List ℕ) (n c d : ℕ) (vs us ks ls : List ℕ) (x y : ℕ)
    → SeeksFlat b target ws key n c vs ks x → SeeksFlat b target ws key n d us ls y
    → (c ≡ d) × (vs ≡ us) × SameKey (counted key max_key (bind (cursor_in ws key) λ k. seek k.order b target)) (λ s. s.cursor) ks ls × (x ≡ y)
seek-settled b target ws key n c d vs us ks ls x y m l = (
  m.answer ∙ sym l.answer,
  m.state ∙ sym l.state,
  same_key (counted key max_key (bind (cursor_in ws key) λ k. seek k.order b target)) (λ s. s.cursor) key ks ls m.key-bytes l.key-bytes,
  m.number ∙ sym l.number,
)
