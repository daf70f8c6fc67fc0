-- Each promise admits one outcome: two codes, with the words, numbers and bytes that they leave, that both keep it are equal.
use Rattle.std.specs.Prelude.{ℕ, ◌≡◌, List}
use Rattle.std.proofs.Common.{sym, ◌∙◌}
use Rattle.row_words.specs.Flat.{sets-settled}
use Rattle.compare_parts.specs.Promise.{WritesVarintFlat, ReadsVarintFlat, ReadsKeyFlat}

pub varint-put-settled : (v : ℕ) (out : List ℕ) (n c d : ℕ) (ys zs : List ℕ) (x y : ℕ) → WritesVarintFlat v out n c ys x → WritesVarintFlat v out n d zs y
    → (c ≡ d) × (ys ≡ zs) × (x ≡ y)
varint-put-settled v out n c d ys zs x y a b = (a.answer ∙ sym b.answer, a.bytes ∙ sym b.bytes, a.number ∙ sym b.number)

pub varint-get-settled : (s : List ℕ) (at : ℕ) (ws : List ℕ) (c d : ℕ) (xs ys : List ℕ) → ReadsVarintFlat s at ws c xs → ReadsVarintFlat s at ws d ys → (c ≡ d) × (xs ≡ ys)
varint-get-settled s at ws c d xs ys a b = sets-settled a b

pub decode-key-settled : (s : List ℕ) (at end prev_len restart : ℕ) (ws : List ℕ) (c d : ℕ) (xs ys : List ℕ)
    → ReadsKeyFlat s at end prev_len restart ws c xs → ReadsKeyFlat s at end prev_len restart ws d ys → (c ≡ d) × (xs ≡ ys)
decode-key-settled s at end prev_len restart ws c d xs ys a b = sets-settled a b
