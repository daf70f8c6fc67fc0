use Prim.Native.Nat.{ℕ, ◌+◌, ◌-◌, ◌*◌, ◌<◌, ◌≤◌}
use mathlib.Core.Path.{◌≡◌, ap, ◌∙◌}
use mathlib.Core.List.{List}
use mathlib.Core.Logic.{⊎_elim, inl, inr}
use native.Mathlib.Omega.{arith}
use lib.ListN.{length, get_or}
use borrow.Author.Rules.{rules}
use Rattle.layout.specs.Place.{varint_at}
use Rattle.layout.proofs.Laws.Place.{varint_at-is, varint_at-no}
use Rattle.layout.proofs.Laws.Res.{eqb-cases}
use Rattle.layout.proofs.Laws.Varint.{IsLast, Reading, reading_start, reading_low, reading_fits32, reading_fits-last, reading_end, reading_good, reading_zero, reading_more, reading_fifth}
use Rattle.utils_decode.specs.Parts.{ended_by}
use Rattle.basics.specs.Answers.{says_num}
use Rattle.utils_decode.proofs.get_varint.Goals as goal

-- the byte that says that more follow
begun : (d : List ℕ) (at b : ℕ) → at < length d → b ≡ get_or d at 0 → 128 ≤ b → b < 256 → Reading d at (b - 128) 128 1
begun d at b h e l u =
    let here : b ≡ get_or d (at + 0) 0 = e ∙ ap (λ (k : ℕ). get_or d k 0) (omega arith) in
    let r = reading_more (reading_start d at) (omega arith) (omega arith) here l u in
    rw (the_sum) at r
  where
    the_sum : 0 + 1 * (b - 128) ≡ b - 128
    the_sum = omega arith

-- a last byte after others
ends : {d : List ℕ} {at acc w i : ℕ} (r : Reading d at acc w i) (b p : ℕ) → 1 ≤ i → at + i < length d → b ≡ get_or d (at + i) 0 → IsLast b i → p ≡ at + (i + 1) → says_num (ended_by acc w b p) ≡ varint_at d at
ends {d} {at} {acc} {w} {i} r b p some k e last q =
    ⊎_elim
    (λ t. rw t.0 (varint_at-no d at 10 (reading_zero r k e last some t.1)))
    (λ t. rw t.0 (varint_at-is d at (acc + w * b) (i + 1) p (reading_good r k e last (λ h. t.1)) q))
    (eqb-cases b 0)

pub loop-i-init : goal.loop-i-init
loop-i-init c =
    let p = c.requires in
    (begun _ _ _ p.0 p.1 p.2 p.3, omega arith)

pub returns-then-s-at : goal.returns-then-s-at
returns-then-s-at c = varint_at-no _ _ _ (reading_end c.loop-i.invariant.0 (omega arith))

pub ended-requires : goal.ended-requires
ended-requires c =
    let l = c.loop-i in
    let b = c.from-b in
    let small : b.result < 256 = search rules in
    omega (arith, reading_fits32 l.invariant.0 b.result (omega arith) small)

pub returns-then-b-lt128 : goal.returns-then-b-lt128
returns-then-b-lt128 c =
    let l = c.loop-i in
    let b = c.from-b in
    let small : b.result < 256 = search rules in
    rw c.ended.ensures (ends l.invariant.0 _ _ l.invariant.1 (omega arith) b.ensures (inl (omega arith, omega arith)) (omega arith))

pub overflow_mul-acc : goal.overflow_mul-acc
overflow_mul-acc c =
    let l = c.loop-i in
    let b = c.from-b in
    let small : b.result < 256 = search rules in
    omega (arith, reading_fits32 l.invariant.0 (b.result - 128) (omega arith) (omega arith))

pub overflow_add-acc : goal.overflow_add-acc
overflow_add-acc c =
    let l = c.loop-i in
    let b = c.from-b in
    let small : b.result < 256 = search rules in
    omega (arith, reading_fits32 l.invariant.0 (b.result - 128) (omega arith) (omega arith))

pub overflow_mul-w : goal.overflow_mul-w
overflow_mul-w c =
    let l = c.loop-i in
    omega (arith, reading_low l.invariant.0 (omega arith))

pub loop-i-preserved : goal.loop-i-preserved
loop-i-preserved c =
    let l = c.loop-i in
    let b = c.from-b in
    let small : b.result < 256 = search rules in
    (reading_more l.invariant.0 (omega arith) (omega arith) b.ensures (omega arith) small, omega arith)

pub overflow_add-at-2 : goal.overflow_add-at-2
overflow_add-at-2 c = omega (arith, c.loop-i.invariant.0.few)

pub returns-then-s-at-2 : goal.returns-then-s-at-2
returns-then-s-at-2 c = varint_at-no _ _ _ (reading_end c.loop-i.invariant.0 (omega arith))

pub returns-then-b-gt15 : goal.returns-then-b-gt15
returns-then-b-gt15 c =
    let l = c.loop-i in
    let b = c.from-b-2 in
    let small : b.result < 256 = search rules in
    let four : l.i ≡ 4 = omega arith in
    varint_at-no _ _ _ (reading_fifth (rw four at l.invariant.0) (omega arith) (omega arith) b.ensures (omega arith))

pub ended-requires-2 : goal.ended-requires-2
ended-requires-2 c =
    let l = c.loop-i in
    let b = c.from-b-2 in
    let small : b.result < 256 = search rules in
    omega (arith, reading_fits-last l.invariant.0 b.result (omega arith))

pub returns : goal.returns
returns c =
    let l = c.loop-i in
    let b = c.from-b-2 in
    let small : b.result < 256 = search rules in
    let four : l.i ≡ 4 = omega arith in
    rw c.ended-2.ensures (ends (rw four at l.invariant.0) _ _ (omega arith) (omega arith) b.ensures (inr (omega arith, omega arith)) (omega arith))
