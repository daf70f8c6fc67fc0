-- `decode_key_only` keeps its promise: the head, then the suffix's end against the data and the row's end.
-- No sum wraps: a head that was read has its suffix start inside the data, and a key that is not too long.
use mathlib.Core.Path.{sym}
use native.Mathlib.Omega.{arith}
use Rattle.layout_v1.proofs.Laws.RowReads.{head_at-tells, key-head, key-short, key-past, key-good}
use Rattle.basics.specs.Answers.{handed-on}
use Rattle.row_decode_v2.specs.Says.{key_from}
use Rattle.row_decode_v0.proofs.decode_key_only.Goals as goal

pub returns-in_err-head : goal.returns-in_err-head
returns-in_err-head c = handed-on key_from _ _ c.from_residual.ensures.1 (key-head _ _ _ _ (sym c.in_err-head.ensures))

pub overflow_add-suffix_end : goal.overflow_add-suffix_end
overflow_add-suffix_end c =
    let h = head_at-tells _ _ _ _ (sym c.in_ok-head.ensures) in
    omega (arith, h.inside, h.fits)

pub returns-then-s-suffix_end : goal.returns-then-s-suffix_end
returns-then-s-suffix_end c = key-short _ _ _ _ (sym c.in_ok-head.ensures) c.if-s-suffix_end.true

pub returns-then-end-suffix_end : goal.returns-then-end-suffix_end
returns-then-end-suffix_end c = key-past _ _ _ _ (sym c.in_ok-head.ensures) c.if-s-suffix_end.false c.if-end-suffix_end.true

pub returns : goal.returns
returns c = key-good _ _ _ _ (sym c.in_ok-head.ensures) c.if-s-suffix_end.false c.if-end-suffix_end.false
