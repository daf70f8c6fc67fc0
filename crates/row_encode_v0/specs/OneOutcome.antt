-- The promise admits one outcome: two results, with the buffers that they leave, that both keep it are equal.
use Rattle.std.specs.Prelude.{ℕ, ◌≡◌, List, Result}
use Rattle.std.proofs.Common.{sym, ◌∙◌}
use Rattle.basics.specs.Answers.{says_same-one}
use Rattle.basics.specs.declared.Refusal.{Refusal}
use Rattle.row_flags.specs.declared.RowFields.{RowFields}
use Rattle.row_encode_v0.specs.Promise.{Encodes}

pub encode-settled : (first_len shared : ℕ) (suffix value : List ℕ) (row : RowFields) (out : List ℕ) (r q : Result ℕ Refusal) (ys zs : List ℕ)
    → Encodes first_len shared suffix value row out r ys → Encodes first_len shared suffix value row out q zs → (r ≡ q) × (ys ≡ zs)
encode-settled first_len shared suffix value row out r q ys zs a b = (says_same-one r q (a.answer ∙ sym b.answer), a.bytes ∙ sym b.bytes)
