-- `copy_16` keeps its promise: eight bytes and the eight after them, each in parts that are lent for them.
use Prim.Native.Nat.{◌+◌, ◌-◌}
use mathlib.Core.Path.{◌≡◌}
use native.Mathlib.Omega.{arith}
use lib.ListN.{length}
use borrow.Rule.Slice.PartMut.{put_mid}
use Rattle.copies.proofs.Copies.{part-copied}
use Rattle.block_rows_v2.proofs.Plain.{sixteen}
use borrow.Author.Rules.{rules}
use Rattle.block_rows_v2.proofs.copy_16.Goals as goal

pub returns : goal.returns
returns c =
    let a = c.args in
    let half = put_mid a.at (a.at + 8 - a.at) a.buf.now c.copy_8.new.buf in
    let long : length half ≡ length a.buf.now = search rules in
    sixteen a.buf.now a.at a.src.now a.from c.requires.0 c.requires.1
    (part-copied 8 a.buf.now a.src.now a.at a.from (omega (arith, c.requires)) (omega (arith, c.requires)) c.copy_8.ensures)
    (part-copied 8 half a.src.now (a.at + 8) (a.from + 8) (omega (arith, c.requires)) (omega (arith, c.requires)) c.copy_8-2.ensures)
