-- `both_8` keeps its promise: eight bytes of `src`, from `from` on, at `at` of either buffer. All are read before the first store, and what eight stores in a row leave is
-- one write (`all-copied`).
use native.Mathlib.Omega.{arith}
use lib.ListN.{length-set}
use Rattle.copies.proofs.Copies.{next-within, all-copied}
use Rattle.step_plain_v2.proofs.both_8.Goals as goal

pub bounds-out-at-2 : goal.bounds-out-at-2
bounds-out-at-2 c =
    next-within 0 7 c.args.src.now c.args.from c.args.out.now c.args.at (omega arith) c.requires.1

pub bounds-out-at-3 : goal.bounds-out-at-3
bounds-out-at-3 c =
    next-within 1 7 c.args.src.now c.args.from c.args.out.now c.args.at (omega arith) c.requires.1

pub bounds-out-at-4 : goal.bounds-out-at-4
bounds-out-at-4 c =
    next-within 2 7 c.args.src.now c.args.from c.args.out.now c.args.at (omega arith) c.requires.1

pub bounds-out-at-5 : goal.bounds-out-at-5
bounds-out-at-5 c =
    next-within 3 7 c.args.src.now c.args.from c.args.out.now c.args.at (omega arith) c.requires.1

pub bounds-out-at-6 : goal.bounds-out-at-6
bounds-out-at-6 c =
    next-within 4 7 c.args.src.now c.args.from c.args.out.now c.args.at (omega arith) c.requires.1

pub bounds-out-at-7 : goal.bounds-out-at-7
bounds-out-at-7 c =
    next-within 5 7 c.args.src.now c.args.from c.args.out.now c.args.at (omega arith) c.requires.1

pub bounds-out-at-8 : goal.bounds-out-at-8
bounds-out-at-8 c =
    next-within 6 7 c.args.src.now c.args.from c.args.out.now c.args.at (omega arith) c.requires.1

pub bounds-key-at-2 : goal.bounds-key-at-2
bounds-key-at-2 c =
    next-within 0 7 c.args.src.now c.args.from c.args.key.now c.args.at (omega arith) c.requires.0

pub bounds-key-at-3 : goal.bounds-key-at-3
bounds-key-at-3 c =
    next-within 1 7 c.args.src.now c.args.from c.args.key.now c.args.at (omega arith) c.requires.0

pub bounds-key-at-4 : goal.bounds-key-at-4
bounds-key-at-4 c =
    next-within 2 7 c.args.src.now c.args.from c.args.key.now c.args.at (omega arith) c.requires.0

pub bounds-key-at-5 : goal.bounds-key-at-5
bounds-key-at-5 c =
    next-within 3 7 c.args.src.now c.args.from c.args.key.now c.args.at (omega arith) c.requires.0

pub bounds-key-at-6 : goal.bounds-key-at-6
bounds-key-at-6 c =
    next-within 4 7 c.args.src.now c.args.from c.args.key.now c.args.at (omega arith) c.requires.0

pub bounds-key-at-7 : goal.bounds-key-at-7
bounds-key-at-7 c =
    next-within 5 7 c.args.src.now c.args.from c.args.key.now c.args.at (omega arith) c.requires.0

pub bounds-key-at-8 : goal.bounds-key-at-8
bounds-key-at-8 c =
    next-within 6 7 c.args.src.now c.args.from c.args.key.now c.args.at (omega arith) c.requires.0

pub shape_of-key : goal.shape_of-key
shape_of-key c = simp length-set

pub shape_of-out : goal.shape_of-out
shape_of-out c = simp length-set

pub returns : goal.returns
returns c =
    (all-copied 7 c.args.src.now c.args.from c.args.key.now c.args.at c.requires.0 c.requires.2, all-copied 7 c.args.src.now c.args.from c.args.out.now c.args.at c.requires.1 c.requires.2)
