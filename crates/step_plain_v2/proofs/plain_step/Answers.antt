-- `plain_step` keeps its promise: no step where the look finds none, else the rules' own step, with the key
-- carried and given. What the look found tells that no sum fails and that all places are inside the block.
use Rattle.std.specs.Prelude.{Some}
use mathlib.Core.Path.{◌≡◌, sym, ◌∙◌}
use Rattle.step_plain_v2.specs.Ahead.{ahead_at}
use Prim.Native.Nat.{◌-◌}
use native.Mathlib.Omega.{arith}
use lib.ListN.{length}
use Rattle.step_plain_v2.proofs.Laws.{Numbers, standing, numbers, step-not, step-goes}
use Rattle.buf.proofs.Laws.{eight-part}
use Rattle.step_plain_v2.proofs.plain_step.Goals.{In_ok-row}
use Rattle.step_plain_v2.proofs.plain_step.Goals as goal

look : (k : In_ok-row) → let a = k.args in Some k.in_ok-row.row ≡ ahead_at a.block.now a.region a.at a.number a.key_len (length a.key.now) (length a.out.now)
look k = sym k.in_ok-row.was ∙ k.look_plain.ensures

facts : (k : In_ok-row) → Numbers k.args.block.now k.args.region k.args.at k.args.number k.args.key.now k.args.out.now k.in_ok-row.row
facts k = numbers _ _ _ _ _ _ _ (standing _ _ _ _ _ _ _ _ (look k))

pub returns-in_err-row : goal.returns-in_err-row
returns-in_err-row c = rw c.from_residual.ensures (step-not _ _ _ _ _ _ _ (sym c.in_err-row.was ∙ c.look_plain.ensures))

pub overflow_add-at : goal.overflow_add-at
overflow_add-at c = let f = facts (goal.at.overflow_add-at c).In_ok-row in omega (arith, f.ends, f.inside)

pub carry-requires : goal.carry-requires
carry-requires c = let f = facts (goal.at.carry-requires c).In_ok-row in
    (omega (arith, f.shared-small, f.unshared-small, f.carries), f.gives, omega (arith, f.ends, f.inside))

pub overflow_sub-seq_at : goal.overflow_sub-seq_at
overflow_sub-seq_at c = let f = facts (goal.at.overflow_sub-seq_at c).In_ok-row in omega (arith, f.ends)

pub overflow_add-region : goal.overflow_add-region
overflow_add-region c = omega (arith, (facts (goal.at.overflow_add-region c).In_ok-row).counted)

pub overflow_add-number : goal.overflow_add-number
overflow_add-number c = let f = facts (goal.at.overflow_add-number c).In_ok-row in omega (arith, f.passed, f.ends, f.inside)

pub overflow_add-row : goal.overflow_add-row
overflow_add-row c = let f = facts (goal.at.overflow_add-row c).In_ok-row in omega (arith, f.shared-small, f.unshared-small)

pub slice_bounds-eight-end : goal.slice_bounds-eight-end
slice_bounds-eight-end c = let f = facts (goal.at.slice_bounds-eight-end c).In_ok-row in omega (arith, f.ends, f.inside)

pub returns : goal.returns
returns c = let f = facts (goal.at.returns c).In_ok-row in
    step-goes _ _ _ _ _ _ _ _ (look (goal.at.returns c).In_ok-row) c.carry.ensures c.pick.ensures c.pick-2.ensures c.pick-3.ensures (eight-part c.args.block.now (c.in_ok-row.row.next - 9) (omega (arith, f.ends, f.inside)) c.eight.ensures)
