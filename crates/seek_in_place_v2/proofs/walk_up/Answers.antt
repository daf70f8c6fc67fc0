use Prim.Native.Nat.{◌+◌, ◌*◌, ◌<◌}
use mathlib.Core.Path.{◌≡◌, refl, ap, sym, ◌∙◌}
use native.Mathlib.Omega.{arith}
use lib.ListN.{length}
use lib.Seq.{length-take-le}
use borrow.Author.Rules.{rules}
use Rattle.layout.specs.Limits.{max_key}
use Rattle.layout.specs.Res.{ok}
use Rattle.layout.specs.Key.{Key}
use Rattle.layout.specs.Place.{splice}
use Rattle.layout.specs.Trailer.{region_of}
use Rattle.layout.proofs.Laws.Seek.{climbing_start, climbing_over, climbing_region, climbing_no, climbing_found, climbing_more}
use Rattle.layout.proofs.Laws.Trailer.{trailer_of-tells}
use Rattle.basics.specs.declared.IterationOrder.TheVariants.{Ascending}
use Rattle.trailer.specs.Laws.{region-known}
use Rattle.trailer.specs.Says.{trailer_from, region_from}
use Rattle.block_regions_v2.specs.Laws.{into-refused}
use Rattle.seek_in_place_v2.proofs.Walks.{walked-handed, walked-off, walked-up, stopped, past-none, past-region}
use Rattle.seek_in_place_v2.proofs.walk_up.Goals.{After-region_of, In_ok-region}
use Rattle.seek_in_place_v2.proofs.walk_up.Goals as goal

-- `walk_up` keeps the promise of the walk up from region to region: what is left of it, from the region at hand, answers what the whole does, and the key's bytes are those that came.
-- Each exit is a law over the walk of that region.

-- the trailer has a region of the number at hand
has : (q : After-region_of) → let a = q.args in (a.t.size + (2 + 2 * a.t.count) ≡ length a.block.now) × (q.loop-index.index < a.t.count)
has q = ((trailer_of-tells _ _ q.requires.1.read).0, q.loop-index-test.true)

region-read : (k : In_ok-region) → let s = k.args in region_of s.block.now (trailer_from s.t) k.loop-index.index ≡ ok (region_from k.in_ok-region.region)
region-read k = region-known _ _ _ ((trailer_of-tells _ _ k.requires.1.read).0, k.loop-index-test.true) k.in_ok-region.ensures

whole : (k : In_ok-region) → length k.loop-index.key ≡ max_key
whole k = ap length k.loop-index.invariant.1 ∙ k.requires.0

pub loop-index-init : goal.loop-index-init
loop-index-init c = (climbing_start _ _ _ _, refl, past-none _ _ _ _)

pub returns-in_err-region : goal.returns-in_err-region
returns-in_err-region c =
    λ p. walked-handed _ _ p _ _ _ c.from_residual.ensures.1
    (climbing_region _ _ _ _ _ c.loop-index.invariant.0 (omega (arith, c.requires.1.inside)) c.loop-index-test.true (region-known _ _ _ (has (goal.at.returns-in_err-region c).After-region_of) c.in_err-region.ensures))
    c.loop-index.invariant.1

pub slice_bounds-walk_into-end : goal.slice_bounds-walk_into-end
slice_bounds-walk_into-end c = sym (length-take-le _ _ (omega (arith, (trailer_of-tells _ _ c.requires.1.read).0)))

pub returns-in_err-stop : goal.returns-in_err-stop
returns-in_err-stop c =
    let said = into-refused _ _ _ _ _ c.requires.1.read (region-read (goal.at.returns-in_err-stop c).In_ok-region) _ (whole (goal.at.returns-in_err-stop c).In_ok-region) _ _ c.in_err-stop.ensures refl in
    λ p. walked-handed _ _ p _ _ _ c.from_residual-in_err-stop.ensures.1
    (climbing_no _ _ _ _ _ c.loop-index.invariant.0 (omega (arith, c.requires.1.inside)) c.loop-index-test.true _ (region-read (goal.at.returns-in_err-stop c).In_ok-region) said.0) (said.1 ∙ c.loop-index.invariant.1)

pub shape_of-key-then-stop-region : goal.shape_of-key-then-stop-region
shape_of-key-then-stop-region c = let h = ap length c.loop-index.invariant.1 in search rules

pub returns-then-stop-region : goal.returns-then-stop-region
returns-then-stop-region c =
    let st = stopped _ _ _ _ _ c.requires.1.read (region-read (goal.at.returns-then-stop-region c).In_ok-region) _ (whole (goal.at.returns-then-stop-region c).In_ok-region) _ _ c.in_ok-stop.ensures refl in
    λ p. walked-up _ _ p _ _ _ _ st.before
    (climbing_found _ _ _ _ _ c.loop-index.invariant.0 (omega (arith, c.requires.1.inside)) c.loop-index-test.true _ (region-read (goal.at.returns-then-stop-region c).In_ok-region) _ st.walked c.if-stop-region.true)
    st.counts st.long (st.inner c.if-stop-region.true ∙ ap (λ (b : Key). splice b 0 st.before) c.loop-index.invariant.1) c.landed.ensures

pub loop-index-preserved : goal.loop-index-preserved
loop-index-preserved c =
    let st = stopped _ _ _ _ _ c.requires.1.read (region-read (goal.at.loop-index-preserved c).In_ok-region) _ (whole (goal.at.loop-index-preserved c).In_ok-region) _ _ c.in_ok-stop.ensures refl in
    (climbing_more _ _ _ _ _ c.loop-index.invariant.0 (omega (arith, c.requires.1.inside)) c.loop-index-test.true _ (region-read (goal.at.loop-index-preserved c).In_ok-region) _ st.walked c.if-stop-region.false, st.outer c.if-stop-region.false ∙ c.loop-index.invariant.1, past-region _ _ _ _ _ _ _ _ _ _ _ (region-read (goal.at.loop-index-preserved c).In_ok-region) st c.if-stop-region.false)

pub overflow_sub-t : goal.overflow_sub-t
overflow_sub-t c = omega (arith, (trailer_of-tells _ _ c.requires.1.read).1)

pub returns : goal.returns
returns c =
    let l = c.loop-index in
    λ p. walked-off _ _ p _ Ascending _ _ (climbing_over _ _ _ _ _ l.invariant.0 (omega (arith, c.requires.1.inside)) c.loop-index-test.false)
    (l.invariant.2 (omega (arith, c.requires.1.inside, c.loop-index-test.false)) (omega (arith, c.requires.1.inside, c.loop-index-test.false, l.invariant.0.regions))) c.over.ensures
