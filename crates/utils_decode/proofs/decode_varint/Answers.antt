-- `decode_varint` keeps its promise: the number and the place after it, or 9 or 10.
-- A first byte below 128 is the whole number; any other start is left to `get_varint`, whose promise is the same.
use Prim.Native.Nat.{ℕ, ◌+◌, ◌<◌}
use mathlib.Core.Path.{◌≡◌, refl, ap, ◌∙◌}
use mathlib.Core.List.{List}
use mathlib.Core.Logic.{inl}
use native.Mathlib.Omega.{arith}
use lib.ListN.{length, get_or}
use Rattle.layout.specs.Res.{ok}
use Rattle.layout.specs.Place.{num_at, varint_at}
use Rattle.layout.specs.Varint.{num}
use Rattle.layout.proofs.Laws.Place.{varint_at-is, varint_at-none}
use Rattle.layout.proofs.Laws.Varint.{reading_start, reading_good}
use Rattle.utils_decode.proofs.decode_varint.Goals as goal

one_byte : (d : List ℕ) (at b : ℕ) → at < length d → b ≡ get_or d at 0 → b < 128 → ok (num_at b (at + 1)) ≡ varint_at d at
one_byte d at b h e l =
    let here : get_or d at 0 ≡ get_or d (at + 0) 0 = ap (λ (k : ℕ). get_or d k 0) (omega arith) in
    let read = reading_good (reading_start d at) (omega arith) (e ∙ here) (inl (l, omega arith)) (λ h. absurd (omega arith)) in
    varint_at-is d at b 1 (at + 1) (ap (λ (k : ℕ). ok (num k 1)) (omega arith) ∙ read) refl

pub returns-then-s-at : goal.returns-then-s-at
returns-then-s-at c = varint_at-none _ _ c.if-s-at.true

pub returns-then-first-lt128 : goal.returns-then-first-lt128
returns-then-first-lt128 c = one_byte _ _ _ c.if-s-at.false c.from-first.ensures c.if-first-lt128.true
