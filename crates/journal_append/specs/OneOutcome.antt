-- The promise admits one outcome: two results, with the buffers that they leave, that both keep it are equal.
use Rattle.std.specs.Prelude.{ℕ, ◌≡◌, List, Result}
use Rattle.std.proofs.Common.{ap, sym, ◌∙◌}
use Rattle.journal.specs.declared.Refusal.{Refusal}
use Rattle.journal.specs.declared.Record.{Record}
use Rattle.journal_append.specs.Append.{written}
use Rattle.journal_append.specs.Promise.{Appends}

pub append-settled : (buffer : List ℕ) (used : ℕ) (r : Record) (a b : Result ℕ Refusal) (ys zs : List ℕ) → Appends buffer used r a ys → Appends buffer used r b zs → (a ≡ b) × (ys ≡ zs)
append-settled buffer used r a b ys zs p q =
    let same : a ≡ b = p.answer ∙ sym q.answer in
    (same, p.bytes ∙ ap (λ (x : Result ℕ Refusal). written x buffer used r) same ∙ sym q.bytes)
