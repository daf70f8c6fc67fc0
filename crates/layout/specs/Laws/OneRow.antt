-- What the contracts and the theorems say by the laws of `OneRow`: definitions.
use Rattle.std.specs.Prelude.{ℕ, ◌≡◌, List, [], ◌++◌, length, take}
use Rattle.layout.specs.Row.{Fields, plain}
use Rattle.layout.specs.RowRead.{RowRead, key_of, fields_of}

-- the bytes w begin d, and the row that is read there has this share, this suffix and these fields
pub record StandsRead (d w t : List ℕ) (r : RowRead) (shared : ℕ) (suffix : List ℕ) (f : Fields) : Type 0 where
  pub is : d ≡ w ++ t
  pub ends : r.next ≡ length w
  pub shares : r.shared ≡ shared
  pub key : key_of d [] r ≡ take shared [] ++ suffix
  pub fields : fields_of d r ≡ plain f

pub record OneRow (w₁ t₁ : List ℕ) (s₁ : ℕ) (x₁ : List ℕ) (f₁ : Fields) (w₂ t₂ : List ℕ) (s₂ : ℕ) (x₂ : List ℕ) (f₂ : Fields) : Type 0 where
  pub shares : s₁ ≡ s₂
  pub suffixes : x₁ ≡ x₂
  pub fields : plain f₁ ≡ plain f₂
  pub bytes : w₁ ≡ w₂
  pub tails : t₁ ≡ t₂
