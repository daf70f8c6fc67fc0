-- `carry` keeps its promise: by two copies of the whole, or, of a key of 16 bytes or more, by the carried
-- bytes and the suffix over them (`given-over`).
use Prim.Native.Nat.{◌+◌, ◌≤◌}
use mathlib.Core.Path.{sym}
use native.Mathlib.Omega.{arith}
use lib.Seq.{length-take-le}
use Rattle.buf_mut.proofs.Laws.{copied, copied-part}
use Rattle.step_plain_v2.proofs.Copies.{part_length, key-room, wide-tells, given-over, given-whole}
use Rattle.step_plain_v2.proofs.carry.Goals.{Else-whole-shared}
use Rattle.step_plain_v2.proofs.carry.Goals as goal

wide : (k : Else-whole-shared) → (16 ≤ k.args.shared + k.args.n) × (k.args.shared ≤ 16) × (k.args.n ≤ 16)
wide k = wide-tells (k.args.shared + k.args.n) k.args.shared k.args.n k.if-whole-shared.false

pub slice_bounds-copy_in-end-then-whole-shared-2 : goal.slice_bounds-copy_in-end-then-whole-shared-2
slice_bounds-copy_in-end-then-whole-shared-2 c = let a = c.args in
    sym (length-take-le _ _ (key-room a.block.now a.key.now a.from a.n a.shared c.requires.2 c.requires.0 (copied-part _ _ _ c.requires.0 c.requires.2 c.copy_in.ensures)))

pub returns-then-whole-shared : goal.returns-then-whole-shared
returns-then-whole-shared c = let a = c.args in
    let put = copied-part _ _ _ c.requires.0 c.requires.2 c.copy_in.ensures in
    given-whole _ _ _ _ _ (part_length a.block.now a.from a.n c.requires.2) put (copied (rw (length-take-le _ _ (key-room a.block.now a.key.now a.from a.n a.shared c.requires.2 c.requires.0 put)) (omega (arith, c.requires.1))) c.copy_in-then-whole-shared.ensures)

pub copy_8-requires : goal.copy_8-requires
copy_8-requires c = let w = wide (goal.at.copy_8-requires c).Else-whole-shared in
    (omega (arith, w.0), omega (arith, w.0))

pub copy_8-requires-2 : goal.copy_8-requires-2
copy_8-requires-2 c = let w = wide (goal.at.copy_8-requires-2 c).Else-whole-shared in
    (omega (arith, w.0), omega (arith, w.0))

pub put_both-requires : goal.put_both-requires
put_both-requires c = let w = wide (goal.at.put_both-requires c).Else-whole-shared in
    (w.2, omega arith, omega arith, omega arith)

pub returns : goal.returns
returns c = let a = c.args in
    let w = wide (goal.at.returns c).Else-whole-shared in
    let l = part_length a.block.now a.from a.n c.requires.2 in
    given-over a.key.now a.out.now _ a.shared (omega (arith, w.0, c.requires)) w.1 (rw l w.0) (rw l c.requires.0) (rw l c.requires.1) c.copy_8.ensures c.copy_8-2.ensures c.put_both.ensures.0 c.put_both.ensures.1
