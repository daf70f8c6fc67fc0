-- `copy_4` keeps its promise: nothing where either slice is too short, else four bytes, all read before the first store: four stores in a row are one write (`all-copied`).
use native.Mathlib.Omega.{arith}
use lib.ListN.{length-set}
use Rattle.copies.proofs.Copies.{all-copied, first-none, first_short, first-all}
use Rattle.copies.proofs.copy_4.Goals as goal

pub returns-then-buf-lt4 : goal.returns-then-buf-lt4
returns-then-buf-lt4 c = first-none 4 c.args.src.now c.args.buf.now c.if-buf-lt4.true

pub returns-then-src-lt4 : goal.returns-then-src-lt4
returns-then-src-lt4 c = first_short 4 c.args.src.now c.args.buf.now c.if-buf-lt4.false c.if-src-lt4.true

pub bounds-buf-1 : goal.bounds-buf-1
bounds-buf-1 c = simp length-set (omega arith)

pub bounds-buf-2 : goal.bounds-buf-2
bounds-buf-2 c = simp length-set (omega arith)

pub returns : goal.returns
returns c =
    let a = c.args in
    first-all 4 a.src.now a.buf.now c.if-buf-lt4.false c.if-src-lt4.false (all-copied 3 a.src.now 0 a.buf.now 0 c.if-buf-lt4.false c.if-src-lt4.false)
