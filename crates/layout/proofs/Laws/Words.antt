-- Two keys compared eight bytes at a time: the eight bytes at a place as one number, high byte first. Equal numbers are equal bytes.
use Rattle.std.specs.Prelude.{ℕ, ◌+◌, ◌*◌, ◌<◌, ◌≤◌, ◌≡◌, List, length, drop, get_or}
use Rattle.std.proofs.Common.{arith}
use Rattle.layout.specs.Key.{Key, common}
use Rattle.layout.proofs.Laws.Key.{common-more}
use Rattle.layout.specs.Laws.Place.{four_at}

-- every element is a byte
abbrev pub Bytes : List ℕ → Type 0
Bytes a = (i : ℕ) → get_or a i 0 < 256

digits : (x y z w : ℕ) → y < 256 → w < 256 → x * 256 + y ≡ z * 256 + w → (x ≡ z) × (y ≡ w)
digits x y z w h k e = (omega arith, omega arith)

four_same : (x₀ x₁ x₂ x₃ y₀ y₁ y₂ y₃ : ℕ) → x₁ < 256 → x₂ < 256 → x₃ < 256 → y₁ < 256 → y₂ < 256 → y₃ < 256
    → (x₀ * 256 + x₁) * 65536 + (x₂ * 256 + x₃) ≡ (y₀ * 256 + y₁) * 65536 + (y₂ * 256 + y₃) → (x₀ ≡ y₀) × (x₁ ≡ y₁) × (x₂ ≡ y₂) × (x₃ ≡ y₃)
four_same x₀ x₁ x₂ x₃ y₀ y₁ y₂ y₃ a₁ a₂ a₃ b₁ b₂ b₃ e =
    let p = digits ((x₀ * 256 + x₁) * 256 + x₂) x₃ ((y₀ * 256 + y₁) * 256 + y₂) y₃ a₃ b₃ (omega arith) in
    let q = digits (x₀ * 256 + x₁) x₂ (y₀ * 256 + y₁) y₂ a₂ b₂ p.0 in
    let r = digits x₀ x₁ y₀ y₁ a₁ b₁ q.0 in
    (r.0, r.1, q.1, p.1)

module _ (a b : Key) (n : ℕ) (h : n + 4 ≤ length a) (k : n + 4 ≤ length b) (u : Bytes a) (v : Bytes b) where
  pub common-four : four_at a n ≡ four_at b n → common (drop n a) (drop n b) ≡ 4 + common (drop (n + 4) a) (drop (n + 4) b)
  common-four e =
      let s = four_same (get_or a n 0) (get_or a (n + 1) 0) (get_or a (n + 2) 0) (get_or a (n + 2 + 1) 0) (get_or b n 0) (get_or b (n + 1) 0) (get_or b (n + 2) 0) (get_or b (n + 2 + 1) 0)
      (u (n + 1)) (u (n + 2)) (u (n + 2 + 1)) (v (n + 1)) (v (n + 2)) (v (n + 2 + 1)) e in
      let c₀ = common-more a b n (omega arith) (omega arith) s.0 in
      let c₁ = common-more a b (n + 1) (omega arith) (omega arith) s.1 in
      let c₂ = common-more a b (n + 2) (omega arith) (omega arith) s.2 in
      let c₃ = common-more a b (n + 2 + 1) (omega arith) (omega arith) s.3 in
      let m₁ : n + 1 + 1 ≡ n + 2 = omega arith in
      let m₂ : n + 2 + 1 + 1 ≡ n + 4 = omega arith in
      let w₁ = rw m₁ at c₁ in
      let w₃ = rw m₂ at c₃ in
      omega (arith, c₀, w₁, c₂, w₃)

abbrev pub eight_at : List ℕ → ℕ → ℕ
eight_at d at = four_at d at * 4294967296 + four_at d (at + 4)

four-small : (d : List ℕ) (at : ℕ) → Bytes d → four_at d at < 4294967296
four-small d at u = omega (arith, u at, u (at + 1), u (at + 2), u (at + 2 + 1))

halves : (x y z w : ℕ) → y < 4294967296 → w < 4294967296 → x * 4294967296 + y ≡ z * 4294967296 + w → (x ≡ z) × (y ≡ w)
halves x y z w h k e = (omega arith, omega arith)

module _ (a b : Key) (n : ℕ) (h : n + 8 ≤ length a) (k : n + 8 ≤ length b) (u : Bytes a) (v : Bytes b) where
  pub common-eight : eight_at a n ≡ eight_at b n → common (drop n a) (drop n b) ≡ 8 + common (drop (n + 8) a) (drop (n + 8) b)
  common-eight e =
      let s = halves (four_at a n) (four_at a (n + 4)) (four_at b n) (four_at b (n + 4)) (four-small a (n + 4) u) (four-small b (n + 4) v) e in
      let c₀ = common-four a b n (omega arith) (omega arith) u v s.0 in
      let c₁ = common-four a b (n + 4) (omega arith) (omega arith) u v s.1 in
      let m : n + 4 + 4 ≡ n + 8 = omega arith in
      let w = rw m at c₁ in
      omega (arith, c₀, w)
