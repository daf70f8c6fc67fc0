-- `check` keeps its promise: 14, all of 15, then the rows.
use mathlib.Core.Path.{◌≡◌, sym, ◌∙◌}
use Rattle.layout.specs.Res.{ok}
use Rattle.layout.specs.Trailer.{all_offsets}
use Rattle.layout_v1.proofs.Laws.Check.{check-trailer, check-offsets, check-rows}
use Rattle.basics.specs.Answers.{handed-on}
use Rattle.trailer.specs.Laws.{offsets-used}
use Rattle.trailer.specs.Says.{trailer_from}
use Rattle.block_check_v1.proofs.check.Goals.{In_ok-all_offsets}
use Rattle.block_check_v1.proofs.check.Goals as goal

-- the offsets that were tested
rises : (o : In_ok-all_offsets) → all_offsets o.args.block.now (trailer_from o.in_ok-t.t) ≡ ok tt
rises o = sym (offsets-used _ _ (sym o.in_ok-t.ensures)) ∙ sym o.in_ok-all_offsets.ensures

pub returns-in_err-t : goal.returns-in_err-t
returns-in_err-t c = handed-on (λ v. v) _ _ c.from_residual.ensures.1 (check-trailer _ (sym c.in_err-t.ensures))

pub returns-in_err-all_offsets : goal.returns-in_err-all_offsets
returns-in_err-all_offsets c =
    let e = sym c.in_ok-t.ensures in
    handed-on (λ v. v) _ _ c.from_residual-in_err-all_offsets.ensures.1 (check-offsets _ _ e (sym (offsets-used _ _ e) ∙ sym c.in_err-all_offsets.ensures))

pub check_rows-requires-clause-t_value : goal.check_rows-requires-clause-t_value
check_rows-requires-clause-t_value c = rises (goal.at.check_rows-requires-clause-t_value c).In_ok-all_offsets

pub returns : goal.returns
returns c = check-rows _ _ (sym c.in_ok-t.ensures) (rises (goal.at.returns c).In_ok-all_offsets) c.check_rows.ensures
