-- `back` keeps the promise of a step back in a region: the row that ends at the position, or the refusal of the read for it.
-- The cursor stands after the region's start, so the read is the definition's; each exit is a law over its answer.
use mathlib.Core.Path.{refl, sym}
use native.Mathlib.Omega.{arith}
use lib.Seq.{length-take-le}
use Rattle.layout.proofs.Laws.Trailer.{trailer_of-tells}
use Rattle.step_in_place_v2.proofs.Laws.{back_to, back-not}
use Rattle.step_in_place_v2.proofs.back.Goals as goal

pub slice_bounds-row_ending_at-end : goal.slice_bounds-row_ending_at-end
slice_bounds-row_ending_at-end c =
    sym (length-take-le _ _ (omega (arith, (trailer_of-tells _ _ c.requires.0).0)))

pub returns-in_err-ended : goal.returns-in_err-ended
returns-in_err-ended c =
    λ key. back-not c.args.p key _ _ _ _ c.requires.1 c.requires.2 c.args.behind.passed _ _ c.in_err-ended.ensures _ _ c.from_residual.ensures.1 refl refl

pub returns : goal.returns
returns c =
    λ key. back_to c.args.p key _ _ _ _ c.requires.1 c.requires.2 c.args.behind.passed _ _ c.in_ok-ended.ensures refl c.found.ensures
