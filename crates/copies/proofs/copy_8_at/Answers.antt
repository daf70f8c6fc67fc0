-- `copy_8_at` keeps its promise: eight bytes of `src`, from `from` on, at `at`. All are read before the first store, and what eight stores in a row leave is one write (`all-copied`).
use native.Mathlib.Omega.{arith}
use lib.ListN.{length-set}
use Rattle.copies.proofs.Copies.{next-within, all-copied}
use Rattle.copies.proofs.copy_8_at.Goals as goal

pub bounds-buf-at-2 : goal.bounds-buf-at-2
bounds-buf-at-2 c =
    next-within 0 7 c.args.src.now c.args.from c.args.buf.now c.args.at (omega arith) c.requires.0

pub bounds-buf-at-3 : goal.bounds-buf-at-3
bounds-buf-at-3 c =
    next-within 1 7 c.args.src.now c.args.from c.args.buf.now c.args.at (omega arith) c.requires.0

pub bounds-buf-at-4 : goal.bounds-buf-at-4
bounds-buf-at-4 c =
    next-within 2 7 c.args.src.now c.args.from c.args.buf.now c.args.at (omega arith) c.requires.0

pub bounds-buf-at-5 : goal.bounds-buf-at-5
bounds-buf-at-5 c =
    next-within 3 7 c.args.src.now c.args.from c.args.buf.now c.args.at (omega arith) c.requires.0

pub bounds-buf-at-6 : goal.bounds-buf-at-6
bounds-buf-at-6 c =
    next-within 4 7 c.args.src.now c.args.from c.args.buf.now c.args.at (omega arith) c.requires.0

pub bounds-buf-at-7 : goal.bounds-buf-at-7
bounds-buf-at-7 c =
    next-within 5 7 c.args.src.now c.args.from c.args.buf.now c.args.at (omega arith) c.requires.0

pub bounds-buf-at-8 : goal.bounds-buf-at-8
bounds-buf-at-8 c =
    next-within 6 7 c.args.src.now c.args.from c.args.buf.now c.args.at (omega arith) c.requires.0

pub shape_of-buf : goal.shape_of-buf
shape_of-buf c = simp length-set

pub returns : goal.returns
returns c =
    all-copied 7 c.args.src.now c.args.from c.args.buf.now c.args.at c.requires.0 c.requires.1
