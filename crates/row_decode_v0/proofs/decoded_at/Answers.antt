-- `decoded_at` keeps to the definition: the row wherever it ends, then its end, past the place or before it.
use mathlib.Core.Path.{sym}
use native.Mathlib.Omega.{arith}
use Rattle.layout_v1.proofs.Laws.RowReads.{read_no, read_past, read-early, read-good}
use Rattle.basics.specs.Answers.{handed-on}
use Rattle.row_decode_v2.specs.Says.{row_from}
use Rattle.row_decode_v0.proofs.decoded_at.Goals as goal

pub returns-in_err-row : goal.returns-in_err-row
returns-in_err-row c = handed-on row_from _ _ c.from_residual.ensures.1 (read_no _ _ _ _ (sym c.in_err-row.ensures))

pub returns-then-end-row : goal.returns-then-end-row
returns-then-end-row c = read_past _ _ _ _ (sym c.in_ok-row.ensures) c.if-end-row.true

pub returns-then-row-end : goal.returns-then-row-end
returns-then-row-end c = read-early _ _ _ _ (sym c.in_ok-row.ensures) c.if-row-end.true

pub returns : goal.returns
returns c = let low = c.if-end-row.false in let high = c.if-row-end.false in read-good _ _ _ _ (sym c.in_ok-row.ensures) (omega arith)
