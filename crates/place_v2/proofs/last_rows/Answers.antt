-- `last_rows` keeps its promise: the trailer that was read has the region, and its rows are counted where it is good.
use Prim.Native.Nat.{ℕ, ◌+◌, ◌-◌, ◌*◌, ◌<◌}
use mathlib.Core.Path.{◌≡◌, sym}
use native.Mathlib.Omega.{arith}
use lib.ListN.{length}
use lib.Seq.{length-take-le}
use Rattle.layout.proofs.Laws.Res.{handed}
use Rattle.layout.proofs.Laws.Trailer.{trailer_of-tells}
use Rattle.basics.specs.Answers.{handed-on}
use Rattle.trailer.specs.Laws.{region-known}
use Rattle.place_v2.proofs.last_rows.Goals.{After-region_of}
use Rattle.place_v2.proofs.last_rows.Goals as goal

has : (q : After-region_of) → let a = q.args in (a.t.size + (2 + 2 * a.t.count) ≡ length a.block.now) × (a.t.count - 1 < a.t.count)
has q = let w = trailer_of-tells _ _ q.requires in (w.0, omega (arith, w.1))

pub overflow_sub-last : goal.overflow_sub-last
overflow_sub-last c = omega (arith, (trailer_of-tells _ _ c.requires).1)

pub returns-in_err-region : goal.returns-in_err-region
returns-in_err-region c =
    handed-on (λ (n : ℕ). n) _ _ c.from_residual.ensures.1 (handed _ (region-known _ _ _ (has (goal.at.returns-in_err-region c).After-region_of) c.in_err-region.ensures))

pub slice_bounds-count_rows-end : goal.slice_bounds-count_rows-end
slice_bounds-count_rows-end c = sym (length-take-le _ _ (omega (arith, (has (goal.at.slice_bounds-count_rows-end c).After-region_of).0)))

pub returns : goal.returns
returns c = rw (region-known _ _ _ (has (goal.at.returns c).After-region_of) c.in_ok-region.ensures) c.count_rows.ensures
