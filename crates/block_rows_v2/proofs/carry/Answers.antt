-- `carry` keeps its promise on both of its ways: the suffix over the key and then all of it; or sixteen bytes at a time.
use Prim.Native.Nat.{◌+◌, ◌-◌, ◌≤◌}
use mathlib.Core.Path.{◌≡◌, sym}
use native.Mathlib.Omega.{arith}
use lib.ListN.{length}
use lib.Seq.{length-take-le}
use Rattle.layout.specs.Limits.{max_key}
use Rattle.block_rows_v2.proofs.Plain.{carried-plainly, carried-wide, wide-tests}
use borrow.Author.Rules.{rules}
use Rattle.block_rows_v2.proofs.carry.Goals.{Else-whole-shared}
use Rattle.block_rows_v2.proofs.carry.Goals as goal

-- the way by sixteen bytes
wide : (k : Else-whole-shared) → (16 ≤ k.args.row.shared + k.args.row.unshared) × (k.args.row.shared ≤ 16) × (k.args.row.unshared ≤ 16) × (16 ≤ length k.args.data.now - (k.args.at + 3))
wide k =
    wide-tests (k.args.row.shared + k.args.row.unshared) k.args.row.shared k.args.row.unshared (length k.args.data.now - (k.args.at + 3)) k.if-whole-shared.false

pub slice_bounds-copy_in-end-then-whole-shared-2 : goal.slice_bounds-copy_in-end-then-whole-shared-2
slice_bounds-copy_in-end-then-whole-shared-2 c =
    let f = c.requires.1 in
    let same : length c.copy_in.new.buf ≡ max_key = search rules in
    sym (length-take-le (c.args.row.shared + c.args.row.unshared) c.copy_in.new.buf (omega (arith, f.shared-small, f.unshared-small)))

pub returns-then-whole-shared : goal.returns-then-whole-shared
returns-then-whole-shared c =
    carried-plainly c.args.key.now c.args.out.now c.args.data.now c.args.at c.args.row c.requires.0 c.requires.1 c.requires.2 c.copy_in.ensures c.copy_in-then-whole-shared.ensures

pub copy_16-requires : goal.copy_16-requires
copy_16-requires c =
    (omega (arith, (wide (goal.at.copy_16-requires c).Else-whole-shared).0, c.requires.2), omega (arith, c.requires.0))

pub copy_16-requires-2 : goal.copy_16-requires-2
copy_16-requires-2 c =
    (omega (arith, c.requires.0, (wide (goal.at.copy_16-requires-2 c).Else-whole-shared).1), omega (arith, (wide (goal.at.copy_16-requires-2 c).Else-whole-shared).3))

pub returns : goal.returns
returns c =
    carried-wide c.args.key.now c.args.out.now c.args.data.now c.args.at c.args.row c.requires.0 c.requires.1 (wide (goal.at.returns c).Else-whole-shared).0 (wide (goal.at.returns c).Else-whole-shared).1 (wide (goal.at.returns c).Else-whole-shared).2 (wide (goal.at.returns c).Else-whole-shared).3 c.requires.2 c.copy_16.ensures c.copy_in-2.ensures c.copy_16-2.ensures
