-- `body_at` keeps to the definition: one test that every byte up to the flags is there, then seq and flags.
-- That test is why the byte of flags can be read where seq ends.
use Prim.Native.Nat.{◌<◌}
use mathlib.Core.Path.{sym}
use native.Mathlib.Omega.{arith}
use lib.ListN.{length}
use Rattle.layout.proofs.Laws.Place.{fixed_at-ends}
use Rattle.layout_v1.proofs.Laws.RowReads.{body-short, body-word, body-flags, body-good}
use Rattle.basics.specs.Answers.{handed-on}
use Rattle.row_decode_v0.specs.Reading.{body_from}
use Rattle.row_decode_v0.proofs.body_at.Goals as goal

pub returns-then-s-next : goal.returns-then-s-next
returns-then-s-next c = body-short _ _ c.if-s-next.true

pub returns-in_err-seq : goal.returns-in_err-seq
returns-in_err-seq c = handed-on body_from _ _ c.from_residual.ensures.1 (body-word _ _ c.if-s-next.false (sym c.in_err-seq.ensures))

pub bounds-s-seq : goal.bounds-s-seq
bounds-s-seq c =
    let ends = fixed_at-ends 8 _ _ _ (sym c.in_ok-seq.ensures) in
    let left = c.if-s-next.false in
    let h : c.in_ok-seq.seq.next < length c.args.s.now = omega arith in
    h

pub returns-in_err-flags : goal.returns-in_err-flags
returns-in_err-flags c =
    handed-on body_from _ _ c.from_residual-in_err-flags.ensures.1 (body-flags _ _ c.if-s-next.false (sym c.in_ok-seq.ensures) (sym c.in_err-flags.ensures))

pub returns : goal.returns
returns c = body-good _ _ c.if-s-next.false (sym c.in_ok-seq.ensures) (sym c.in_ok-flags.ensures)
