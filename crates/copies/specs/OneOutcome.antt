-- Each promise admits one outcome: two results, with the buffers that they leave, that both keep it are equal.
use Rattle.std.specs.Prelude.{ℕ, ◌≡◌, Bool, List}
use Rattle.std.proofs.Common.{sym, ◌∙◌}
use Rattle.copies.specs.Promise.{CopiesFirst, CopiesAll}

-- any number of bytes, and that of each copy
pub copies_settled : (n : ℕ) (src buf ys zs : List ℕ) → CopiesFirst n src buf ys → CopiesFirst n src buf zs → ys ≡ zs
copies_settled n src buf ys zs a b = a ∙ sym b

pub copy_8_settled : (src buf ys zs : List ℕ) → CopiesFirst 8 src buf ys → CopiesFirst 8 src buf zs → ys ≡ zs
copy_8_settled = copies_settled 8

pub copy_4_settled : (src buf ys zs : List ℕ) → CopiesFirst 4 src buf ys → CopiesFirst 4 src buf zs → ys ≡ zs
copy_4_settled = copies_settled 4

pub copy-all-settled : (src buf : List ℕ) (at : ℕ) (r q : Bool) (ys zs : List ℕ) → CopiesAll src buf at r ys → CopiesAll src buf at q zs → (r ≡ q) × (ys ≡ zs)
copy-all-settled src buf at r q ys zs a b = (a.answer ∙ sym b.answer, a.bytes ∙ sym b.bytes)
