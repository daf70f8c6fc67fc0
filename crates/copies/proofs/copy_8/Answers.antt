-- `copy_8` keeps its promise: nothing where either slice is too short, else eight bytes, copied from the start of the one to the start of the other.
use Rattle.copies.proofs.Copies.{first-none, first_short, first-all}
use Rattle.copies.proofs.copy_8.Goals as goal

pub returns-then-buf-lt8 : goal.returns-then-buf-lt8
returns-then-buf-lt8 c = first-none 8 c.args.src.now c.args.buf.now c.if-buf-lt8.true

pub returns-then-src-lt8 : goal.returns-then-src-lt8
returns-then-src-lt8 c = first_short 8 c.args.src.now c.args.buf.now c.if-buf-lt8.false c.if-src-lt8.true

pub returns : goal.returns
returns c =
    let a = c.args in
    first-all 8 a.src.now a.buf.now c.if-buf-lt8.false c.if-src-lt8.false c.copy_8_at.ensures
