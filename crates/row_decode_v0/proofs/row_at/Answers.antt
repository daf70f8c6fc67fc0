-- `row_at` keeps to the definition: head, body, times, and what the row holds.
-- Each exit is a law of the definition, over the parts that were read on the way to it.
use mathlib.Core.Path.{sym, ap, ◌∙◌}
use native.Mathlib.Omega.{arith}
use Rattle.layout.specs.Res.{ok}
use Rattle.layout.specs.RowRead.{RowRead}
use Rattle.layout_v1.proofs.Laws.RowReads.{head_at-tells, row-head, row-body, row-times, row-held, row-good}
use Rattle.basics.specs.Answers.{handed-on}
use Rattle.row_decode_v2.specs.Says.{row_from}
use Rattle.row_decode_v0.proofs.row_at.Goals as goal

pub returns-in_err-head : goal.returns-in_err-head
returns-in_err-head c = handed-on row_from _ _ c.from_residual.ensures.1 (row-head _ _ _ (sym c.in_err-head.ensures))

pub body_at-requires : goal.body_at-requires
body_at-requires c = let h = head_at-tells _ _ _ _ (sym c.in_ok-head.ensures) in (h.inside, omega (arith, h.fits))

pub returns-in_err-body : goal.returns-in_err-body
returns-in_err-body c =
    handed-on row_from _ _ c.from_residual-in_err-body.ensures.1 (row-body _ _ _ (sym c.in_ok-head.ensures) (sym c.in_err-body.ensures))

pub returns-in_err-times : goal.returns-in_err-times
returns-in_err-times c =
    handed-on row_from _ _ c.from_residual-in_err-times.ensures.1 (row-times _ _ _ (sym c.in_ok-head.ensures) (sym c.in_ok-body.ensures) (sym c.in_err-times.ensures))

pub returns-in_err-held : goal.returns-in_err-held
returns-in_err-held c =
    handed-on row_from _ _ c.from_residual-in_err-held.ensures.1
    (row-held _ _ _ (sym c.in_ok-head.ensures) (sym c.in_ok-body.ensures) (sym c.in_ok-times.ensures) (sym c.in_err-held.ensures))

pub returns : goal.returns
returns c =
    ap (λ (x : RowRead). ok x) c.row_of.ensures
    ∙ row-good _ _ _ (sym c.in_ok-head.ensures) (sym c.in_ok-body.ensures) (sym c.in_ok-times.ensures) (sym c.in_ok-held.ensures)
