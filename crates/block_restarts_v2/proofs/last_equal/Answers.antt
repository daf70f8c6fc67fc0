use Prim.Native.Nat.{ℕ, ◌+◌, ◌-◌, ◌≤◌}
use mathlib.Core.Path.{◌≡◌, sym, ◌∙◌, ap}
use mathlib.Core.Bool.{Bool, not}
use native.Mathlib.Omega.{arith}
use Rattle.std.proofs.Common.{Ordering, Less, Equal, Greater}
use Rattle.std.specs.Ordering.{is_ne}
use Rattle.layout.specs.Laws.Compare.{is_equal}
use Rattle.layout.proofs.Laws.Seek.{running_start}
use Rattle.basics.specs.Answers.{handed-on}
use Rattle.keys.specs.Says.{says_ordering}
use Rattle.block_restarts_v2.specs.Laws.{run-over, run-no, run_ends, run_more}
use Rattle.block_restarts_v2.proofs.last_equal.Goals as goal

equals : (o : Ordering) {x y : Bool} → y ≡ is_ne o → y ≡ x → is_equal (says_ordering o) ≡ not x
equals Less e k = ap not (sym e ∙ k)
equals Equal e k = ap not (sym e ∙ k)
equals Greater e k = ap not (sym e ∙ k)

-- the restart after the one before `next`
back : (first next : ℕ) → first + 1 ≤ next → next - 1 + 1 ≡ next
back first next h = omega arith

pub loop-next-init : goal.loop-next-init
loop-next-init c =
    let n : c.args.first + 1 - 1 ≡ c.args.first = omega arith in
    rw n (running_start _ _ _ _)

pub returns-in_err-order : goal.returns-in_err-order
returns-in_err-order c =
    let n = back _ _ c.loop-next.auto.next in
    handed-on (λ s. s) _ _ c.from_residual.ensures.1 (run-no _ _ _ _ _ _ c.loop-next.invariant (rw n c.loop-next-test.true) (rw n (sym c.in_err-order.ensures)))

pub returns-then-is_ne : goal.returns-then-is_ne
returns-then-is_ne c =
    let n = back _ _ c.loop-next.auto.next in
    run_ends _ _ _ _ _ _ c.loop-next.invariant (rw n c.loop-next-test.true) (rw n (sym c.in_ok-order.ensures)) (equals _ c.is_ne.ensures c.if-is_ne.true)

pub loop-next-preserved : goal.loop-next-preserved
loop-next-preserved c =
    let l = c.loop-next in
    let n = back _ _ l.auto.next in
    let m : l.next + 1 - 1 ≡ l.next - 1 + 1 = omega (arith, n) in
    rw m (run_more _ _ _ 0 _ _ l.invariant (rw n c.loop-next-test.true) (rw n (sym c.in_ok-order.ensures)) (equals _ c.is_ne.ensures c.if-is_ne.false))

pub returns : goal.returns
returns c =
    let l = c.loop-next in
    let e : l.next - 1 ≡ c.args.t.count - 1 = omega (arith, l.auto.next-end, c.requires.1, c.loop-next-test.false) in
    run-over _ _ _ _ _ _ (rw e at l.invariant) (omega arith)
