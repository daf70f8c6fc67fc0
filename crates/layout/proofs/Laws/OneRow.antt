-- Two rows whose bytes begin one list, and that one reader reads there, are one, and so are the bytes that follow them: in either format.
use Rattle.std.specs.Prelude.{ℕ, ◌≡◌, refl, List, [], ◌++◌, length, take, drop}
use Rattle.std.proofs.Common.{ap, sym, ◌∙◌, take_at, drop_at}
use Rattle.std.proofs.Math.Seq.{take-nil}
use Rattle.layout.specs.Row.{Fields}
use Rattle.layout.specs.RowRead.{RowRead, key_of, fields_of}
use Rattle.layout.specs.Laws.OneRow.{OneRow, StandsRead}

pub one-row : {d w₁ t₁ : List ℕ} {r₁ : RowRead} {s₁ : ℕ} {x₁ : List ℕ} {f₁ : Fields} {w₂ t₂ : List ℕ} {r₂ : RowRead} {s₂ : ℕ} {x₂ : List ℕ} {f₂ : Fields}
    → r₁ ≡ r₂ → StandsRead d w₁ t₁ r₁ s₁ x₁ f₁ → StandsRead d w₂ t₂ r₂ s₂ x₂ f₂ → OneRow w₁ t₁ s₁ x₁ f₁ w₂ t₂ s₂ x₂ f₂
one-row {d} {w₁} {t₁} {r₁} {s₁} {x₁} {f₁} {w₂} {t₂} {r₂} {s₂} {x₂} {f₂} g p q =
    let n : length w₁ ≡ length w₂ = sym p.ends ∙ ap (λ (x : RowRead). x.next) g ∙ q.ends in
    let e : w₁ ++ t₁ ≡ w₂ ++ t₂ = sym p.is ∙ q.is in
    record {
      shares = sym p.shares ∙ ap (λ (x : RowRead). x.shared) g ∙ q.shares;
      suffixes = rw (take-nil s₁, take-nil s₂) at (sym p.key ∙ ap (key_of d []) g ∙ q.key);
      fields = sym p.fields ∙ ap (fields_of d) g ∙ q.fields;
      bytes = sym (take_at w₁ t₁ (length w₂) n) ∙ ap (take (length w₂)) e ∙ take_at w₂ t₂ (length w₂) refl;
      tails = sym (drop_at w₁ t₁ (length w₂) n) ∙ ap (drop (length w₂)) e ∙ drop_at w₂ t₂ (length w₂) refl;
    }
