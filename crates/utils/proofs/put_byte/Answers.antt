-- `put_byte` keeps its promise for any place and byte.
-- The test of its room is the promise's own, for one byte; one store is a write of that byte.
use native.Mathlib.Omega.{arith}
use Rattle.layout.proofs.Laws.Splice.{wrote-set}
use Rattle.buf_mut.proofs.Laws.{puts-short, puts-wrote}
use Rattle.utils.proofs.put_byte.Goals as goal

pub returns-then-at-buf : goal.returns-then-at-buf
returns-then-at-buf c = puts-wrote (wrote-set _ _ _ c.if-at-buf.true)

pub returns : goal.returns
returns c = puts-short _ _ _ (omega arith)
