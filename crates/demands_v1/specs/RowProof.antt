-- One row, proved: what was encoded is laid (`Encoded`), so it is read where it stands, whatever follows; and what is read of a row's bytes depends on no byte past its end, so of
-- two rows that one first key stands before, neither begins the other.
use Rattle.std.specs.Prelude.{ℕ, ◌≡◌, List, [], ◌++◌, length, drop}
use Rattle.std.proofs.Common.{ap, sym, ◌∙◌, append-nil, arith}
use Rattle.layout.specs.Res.{ok}
use Rattle.layout.specs.Row.{Fields, Typed}
use Rattle.layout.specs.RowRead.{RowRead}
use Rattle.layout_v1.specs.Row.{row_bytes, encode_row, SameRow}
use Rattle.layout_v1.specs.RowRead.{row_at, decode_row}
use Rattle.demands.specs.Rows.{DecodesTo}
use Rattle.demands.specs.Proof3.{no-tail}
use Rattle.layout.proofs.Laws.Res.{ok-inj}
use Rattle.layout.specs.Laws.Encoded.{Encoded}
use Rattle.layout.proofs.Laws.Encoded.{tests-tell, encoded_fields}
use Rattle.layout_v1.specs.Laws.Codec.{places_of}
use Rattle.layout_v1.proofs.Laws.Codec.{row_at-law, places_of-fields, places_of-key, prefix-free}
use Rattle.demands_v1.specs.Laws.Local.{row_at-local}

pub encode-tells : (first_len shared : ℕ) (suffix : List ℕ) (f : Fields) (room : ℕ) (w : List ℕ) → encode_row first_len shared suffix f room ≡ ok w
    → Encoded (row_bytes shared suffix f) first_len shared suffix f w
unfolding encode_row
encode-tells first_len shared suffix f room w e = tests-tell (row_bytes shared suffix f) first_len shared suffix f room w e

module _ (first_len shared : ℕ) (suffix : List ℕ) (f : Fields) (w post : List ℕ) (e : Encoded (row_bytes shared suffix f) first_len shared suffix f w) (t : Typed f) where
  here : drop 0 (w ++ post) ≡ row_bytes shared suffix f ++ post
  here = ap (λ (x : List ℕ). x ++ post) (sym e.is)

  pub decodes-back : DecodesTo (decode_row (w ++ post) first_len) shared suffix f w post
  decodes-back =
      record {
        row = places_of 0 shared suffix f;
        reads = row_at-law (w ++ post) 0 shared suffix f post here (encoded_fields e t) first_len e.shares e.key-ok;
        ends = omega (arith, ap length e.is);
        fields = places_of-fields (w ++ post) 0 shared suffix f post here (encoded_fields e t);
        key = places_of-key (w ++ post) 0 shared suffix f post here;
      }

pub encoded_differ : (first_len s₁ : ℕ) (x₁ : List ℕ) (f₁ : Fields) (w₁ : List ℕ) (s₂ : ℕ) (x₂ : List ℕ) (f₂ : Fields) (w₂ tail : List ℕ)
    → Encoded (row_bytes s₁ x₁ f₁) first_len s₁ x₁ f₁ w₁ → Encoded (row_bytes s₂ x₂ f₂) first_len s₂ x₂ f₂ w₂ → Typed f₁ → Typed f₂ → w₁ ++ tail ≡ w₂ → SameRow s₁ x₁ f₁ tail s₂ x₂ f₂ []
encoded_differ first_len s₁ x₁ f₁ w₁ s₂ x₂ f₂ w₂ tail e₁ e₂ t₁ t₂ h =
    prefix-free first_len s₁ x₁ f₁ tail s₂ x₂ f₂ [] e₁.shares e₂.shares e₁.key-ok e₂.key-ok (encoded_fields e₁ t₁) (encoded_fields e₂ t₂)
    (ap (λ (x : List ℕ). x ++ tail) e₁.is ∙ h ∙ sym e₂.is ∙ sym (append-nil (row_bytes s₂ x₂ f₂)))

pub decoded_differ : (first_len : ℕ) (x y tail : List ℕ) (r q : RowRead) → decode_row x first_len ≡ ok r → r.next ≡ length x → decode_row y first_len ≡ ok q → q.next ≡ length y → x ++ tail ≡ y
    → (tail ≡ []) × (r ≡ q)
decoded_differ first_len x y tail r q e n f m h =
    let e₁ : row_at (x ++ []) 0 first_len ≡ ok r = ap (λ (d : List ℕ). row_at d 0 first_len) (append-nil x) ∙ e in
    let e₂ : row_at (x ++ tail) 0 first_len ≡ ok r = row_at-local x [] tail 0 first_len r e₁ (omega (arith, n)) in
    let f₁ : row_at (x ++ tail) 0 first_len ≡ ok q = ap (λ (d : List ℕ). row_at d 0 first_len) h ∙ f in
    let same : r ≡ q = ok-inj (sym e₂ ∙ f₁) in
    (no-tail x y tail r q same n m h, same)
