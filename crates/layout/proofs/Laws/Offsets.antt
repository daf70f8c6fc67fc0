-- A trailer as code writes it: one offset after another, then the low 16 bits of their count.
use Rattle.std.specs.Prelude.{ℕ, ◌+◌, ◌/◌, ◌%◌, ◌^◌, ◌<◌, ◌≡◌, refl, List, [], ◌∷◌, ◌++◌, length, take, get_or}
use Rattle.std.proofs.Common.{ap, sym, append_assoc, append-nil, arith, add-one, take-suc}
use Rattle.layout.specs.Fixed.{big}
use Rattle.layout.specs.Block.{offset_bytes, trailer}

offset_bytes-snoc : (os : List ℕ) (o : ℕ) → offset_bytes (os ++ (o ∷ [])) ≡ offset_bytes os ++ big 2 o
unfolding offset_bytes
offset_bytes-snoc [] o = append-nil (big 2 o)
offset_bytes-snoc (x ∷ xs) o = rw (offset_bytes-snoc xs o) (sym (append_assoc (big 2 x) (offset_bytes xs) (big 2 o)))

-- none is written yet, and one more
pub offsets-none : (os : List ℕ) → [] ≡ offset_bytes (take 0 os)
unfolding offset_bytes
offsets-none os = refl

pub offsets-more : (os : List ℕ) (i : ℕ) → i < length os → offset_bytes (take i os) ++ big 2 (get_or os i 0) ≡ offset_bytes (take (i + 1) os)
offsets-more os i h = sym (rw (add-one i, take-suc os i 0 h) (offset_bytes-snoc (take i os) (get_or os i 0)))

-- two bytes hold the low 16 bits
pub big-low : (v : ℕ) → big 2 (v % 65536) ≡ big 2 v
unfolding big
big-low v =
    let high : v % 65536 / 256 ^ 1 % 256 ≡ v / 256 ^ 1 % 256 = omega arith in
    let low : v % 65536 / 256 ^ 0 % 256 ≡ v / 256 ^ 0 % 256 = omega arith in
    cc

-- all are written, and then their count
pub trailer-counted : (os : List ℕ) → offset_bytes os ++ big 2 (length os % 65536) ≡ trailer os
unfolding trailer
trailer-counted os = ap (λ (w : List ℕ). offset_bytes os ++ w) (big-low (length os))
