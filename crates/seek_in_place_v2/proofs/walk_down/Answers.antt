use Prim.Native.Nat.{◌+◌, ◌-◌, ◌*◌, ◌<◌}
use mathlib.Core.List.{[]}
use mathlib.Core.Path.{◌≡◌, refl, sym, ◌∙◌}
use native.Mathlib.Omega.{arith}
use lib.ListN.{length}
use lib.Seq.{length-take-le}
use Rattle.layout.specs.Res.{ok}
use Rattle.layout.specs.Seek.{last_at_or_below}
use Rattle.layout.specs.Trailer.{data_of, region_of}
use Rattle.layout.specs.Number.{ended_by}
use Rattle.layout.proofs.Laws.Number.{number_in}
use Rattle.layout.proofs.Laws.Seek.{Falling, falling-region, falling-no, falling-found}
use Rattle.layout.proofs.Laws.Trailer.{trailer_of-tells}
use Rattle.basics.specs.declared.IterationOrder.TheVariants.{Descending}
use Rattle.trailer.specs.Laws.{region-known}
use Rattle.trailer.specs.Says.{trailer_from, region_from}
use Rattle.whole_regions_v2.specs.Laws.{last-ended, last-refused}
use Rattle.seek_in_place_v2.proofs.Walks.{walked-handed, walked_to, falls-at, falls-on}
use Rattle.seek_in_place_v2.proofs.walk_down.Goals.{After-region_of, In_ok-region, In_ok-last}
use Rattle.seek_in_place_v2.proofs.walk_down.Goals as goal

-- the trailer has a region of the number at hand
has : (q : After-region_of) → let a = q.args in (a.t.size + (2 + 2 * a.t.count) ≡ length a.block.now) × (q.loop-index.index - 1 < a.t.count)
has q = ((trailer_of-tells _ _ q.requires.read).0, omega (arith, q.loop-index-test.true, q.loop-index.invariant.1))

falling : (q : After-region_of) → let a = q.args in Falling a.block.now (trailer_from a.t) a.target.now a.start.region (q.loop-index.index - 1)
falling q = falls-at _ _ _ _ _ q.loop-index-test.true q.loop-index.invariant.0

region-read : (k : In_ok-region) → let s = k.args in region_of s.block.now (trailer_from s.t) (k.loop-index.index - 1) ≡ ok (region_from k.in_ok-region.region)
region-read k = region-known _ _ _ ((trailer_of-tells _ _ k.requires.read).0, omega (arith, k.loop-index-test.true, k.loop-index.invariant.1)) k.in_ok-region.ensures

last-read : (m : In_ok-last) → let s = m.args in let g = m.in_ok-region.region in let d = data_of s.block.now (trailer_from s.t) in
    (last_at_or_below s.t.size d (region_from g) s.target.now g.start [] g.start ≡ ok m.in_ok-last.last.at) × (ended_by d (region_from g) m.in_ok-last.last.at ≡ m.in_ok-last.last.number)
last-read m =
    last-ended _ _ _ _ _ m.requires.read (region-known _ _ _ ((trailer_of-tells _ _ m.requires.read).0, omega (arith, m.loop-index-test.true, m.loop-index.invariant.1)) m.in_ok-region.ensures) _ m.in_ok-last.ensures refl

pub returns-in_err-region : goal.returns-in_err-region
returns-in_err-region c =
    λ p key. walked-handed _ _ p key _ _ c.from_residual.ensures.1 (falling-region _ _ _ _ _ (falling (goal.at.returns-in_err-region c).After-region_of) (region-known _ _ _ (has (goal.at.returns-in_err-region c).After-region_of) c.in_err-region.ensures)) refl

pub slice_bounds-last_at_or_below-end : goal.slice_bounds-last_at_or_below-end
slice_bounds-last_at_or_below-end c = sym (length-take-le _ _ (omega (arith, (trailer_of-tells _ _ c.requires.read).0)))

pub returns-in_err-last : goal.returns-in_err-last
returns-in_err-last c =
    λ p key. walked-handed _ _ p key _ _ c.from_residual-in_err-last.ensures.1
    (falling-no _ _ _ _ _ (falling (goal.at.returns-in_err-last c).After-region_of) _ (region-read (goal.at.returns-in_err-last c).In_ok-region)
    (last-refused _ _ _ _ _ c.requires.read (region-read (goal.at.returns-in_err-last c).In_ok-region) _ c.in_err-last.ensures refl)) refl

pub returns-then-region-last : goal.returns-then-region-last
returns-then-region-last c =
    let read = last-read (goal.at.returns-then-region-last c).In_ok-last in
    let is = region-read (goal.at.returns-then-region-last c).In_ok-region in
    λ p key. walked_to _ _ p key Descending _ _ (falling-found _ _ _ _ _ (falling (goal.at.returns-then-region-last c).After-region_of) _ is _ read.0 c.if-region-last.true)
    (sym (number_in _ _ _ _ _ is ∙ read.1)) c.landed.ensures

pub loop-index-preserved : goal.loop-index-preserved
loop-index-preserved c =
    (falls-on _ _ _ _ _ (falling (goal.at.loop-index-preserved c).After-region_of) _ (region-read (goal.at.loop-index-preserved c).In_ok-region) _ (last-read (goal.at.loop-index-preserved c).In_ok-last).0 c.if-region-last.false, omega (arith, c.loop-index.invariant.1))
