-- Each promise admits one outcome: two results, with the buffers that they leave, that both keep it are equal.
use Rattle.std.specs.Prelude.{ℕ, ◌≡◌, List, ℤ, Result}
use Rattle.std.proofs.Common.{sym, ◌∙◌}
use Rattle.layout.specs.Fixed.{big, bits}
use Rattle.basics.specs.declared.Refusal.{Refusal}
use Rattle.buf_mut.specs.Promise.{Puts, PlaceAfter}
use Rattle.basics.specs.Answers.{says_same-one}

-- any bytes, and those of each writer

pub puts-settled : (w buf : List ℕ) (at : ℕ) (r q : Result ℕ Refusal) (ys zs : List ℕ) → Puts w buf at r ys → Puts w buf at q zs → (r ≡ q) × (ys ≡ zs)
puts-settled w buf at r q ys zs a b = (says_same-one r q (a.answer ∙ sym b.answer), a.bytes ∙ sym b.bytes)

module _ (buf : List ℕ) (at : ℕ) (r q : Result ℕ Refusal) (ys zs : List ℕ) where
  pub put-u16-settled : (v : ℕ) → Puts (big 2 v) buf at r ys → Puts (big 2 v) buf at q zs → (r ≡ q) × (ys ≡ zs)
  put-u16-settled v = puts-settled (big 2 v) buf at r q ys zs

  pub put-u32-settled : (v : ℕ) → Puts (big 4 v) buf at r ys → Puts (big 4 v) buf at q zs → (r ≡ q) × (ys ≡ zs)
  put-u32-settled v = puts-settled (big 4 v) buf at r q ys zs

  pub put-u64-settled : (v : ℕ) → Puts (big 8 v) buf at r ys → Puts (big 8 v) buf at q zs → (r ≡ q) × (ys ≡ zs)
  put-u64-settled v = puts-settled (big 8 v) buf at r q ys zs

  pub put-i64-settled : (z : ℤ) → Puts (big 8 (bits z)) buf at r ys → Puts (big 8 (bits z)) buf at q zs → (r ≡ q) × (ys ≡ zs)
  put-i64-settled z = puts-settled (big 8 (bits z)) buf at r q ys zs

  pub copy_in_settled : (src : List ℕ) → Puts src buf at r ys → Puts src buf at q zs → (r ≡ q) × (ys ≡ zs)
  copy_in_settled src = puts-settled src buf at r q ys zs

pub place-after-settled : (put : Result ℕ Refusal) (m n : ℕ) → PlaceAfter put m → PlaceAfter put n → m ≡ n
place-after-settled put m n p q = p ∙ sym q
