-- The three writes of a body are one, of card, retry number and amount.
use Prim.Native.Nat.{ℕ, ◌+◌, ◌≤◌}
use mathlib.Core.Path.{◌≡◌, refl}
use mathlib.Core.List.{List}
use native.Mathlib.Omega.{arith}
use lib.ListN.{length}
use Rattle.layout.specs.Fixed.{big}
use Rattle.layout.specs.Place.{splice}
use Rattle.layout.proofs.Laws.Fixed.{length-big}
use Rattle.layout.specs.Laws.Splice.{Wrote}
use Rattle.layout.proofs.Laws.Splice.{wrote_then, wrote-length}
use Rattle.std.specs.Prelude.{Result}
use Rattle.buf_mut.specs.Promise.{Puts}
use Rattle.buf_mut.proofs.Laws.{copied}
use Rattle.journal.specs.Record.{body_bytes}

pub put-fixed : (n v : ℕ) {xs ys : List ℕ} {at m : ℕ} {p : Result ℕ _} → m ≡ at + n → m ≤ length xs → Puts (big n v) xs at p ys → Wrote xs at (big n v) ys m
put-fixed n v {xs} {ys} {at} {m} e h q =
    let fits : at + length (big n v) ≤ length xs = omega (arith, length-big n v) in
    record { is = copied fits q; next = omega (arith, length-big n v); room = h }

pub body-wrote : (xs : List ℕ) (at card retry amount : ℕ) {y₁ y₂ y₃ : List ℕ} {p₁ p₂ p₃ : Result ℕ _} → at + 20 ≤ length xs → Puts (big 8 card) xs at p₁ y₁ → Puts (big 8 retry) y₁ (at + 8) p₂ y₂
    → Puts (big 4 amount) y₂ (at + 16) p₃ y₃ → y₃ ≡ splice xs at (body_bytes card retry amount)
body-wrote xs at card retry amount h q₁ q₂ q₃ =
    let w₁ = put-fixed 8 card {m = at + 8} refl (omega arith) q₁ in
    let l₁ = wrote-length w₁ in
    let w₂ = put-fixed 8 retry {m = at + 16} (omega arith) (omega (arith, l₁)) q₂ in
    let l₂ = wrote-length w₂ in
    let w₃ = put-fixed 4 amount {m = at + 20} (omega arith) (omega (arith, l₁, l₂)) q₃ in
    (wrote_then w₁ (wrote_then w₂ w₃)).is
