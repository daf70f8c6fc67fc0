-- Each promise admits one outcome: two results, with the buffers that they leave, that both keep it are equal.
use Rattle.std.specs.Prelude.{ℕ, ◌≡◌, List, Result}
use Rattle.std.proofs.Common.{sym, ◌∙◌}
use Rattle.layout.specs.Varint.{varint}
use Rattle.basics.specs.declared.Refusal.{Refusal}
use Rattle.buf_mut.specs.OneOutcome.{puts-settled}
use Rattle.buf_mut.specs.Promise.{Puts}
use Rattle.utils.specs.Promise.{VarintLength}

pub varint-len-settled : (v m n : ℕ) → VarintLength v m → VarintLength v n → m ≡ n
varint-len-settled v m n p q = p.rule ∙ sym q.rule

pub encode-varint-settled : (v : ℕ) (buf : List ℕ) (at : ℕ) (r q : Result ℕ Refusal) (ys zs : List ℕ) → Puts (varint v) buf at r ys → Puts (varint v) buf at q zs → (r ≡ q) × (ys ≡ zs)
encode-varint-settled v = puts-settled (varint v)
