use mathlib.Core.Path.{◌≡◌, refl, ap, sym, ◌∙◌}
use Rattle.layout.specs.Res.{ok}
use Rattle.layout.specs.Plain.{spans}
use Rattle.layout.specs.Trailer.{row_in}
use Rattle.basics.specs.Answers.{says}
use Rattle.trailer.specs.Says.{region_from}
use lib.ListN.{take}
use Prim.Native.Nat.{ℕ}
use native.Mathlib.Omega.{arith}
use Rattle.layout.proofs.Laws.MatchWalk.{SpanTells, span-tells}
use Rattle.row_span_v2.specs.Promise.{span_from}
use Rattle.block_regions_v2.specs.Rows.{filling_none, filling_over, filling_read, filling_more}
use borrow.Author.Rules.{rules}
use Rattle.block_regions_v2.proofs.rebuild_key.Goals.{In-Ok}
use Rattle.block_regions_v2.proofs.rebuild_key.Goals as goal

-- `rebuild_key` keeps its promise.
-- The loop's invariant: whatever key is wanted, the rows from `at` on, read after a key of `len` bytes that the slice agrees with as far as both go, make it.

-- what the row that a turn read tells
read : (k : In-Ok) → let a = k.args in ok (span_from k.in-Ok.row) ≡ spans (row_in a.data.now (region_from a.region) k.loop-at.at k.loop-at.len)
read k = sym (ap (says span_from) k.in-Ok.is) ∙ k.span_in.ensures

tells : (k : In-Ok) → let a = k.args in
    SpanTells a.data.now k.loop-at.at a.region.end k.loop-at.len (span_from k.in-Ok.row)
tells k = span-tells _ _ _ _ _ _ (read k)

pub returns-then-key-eq0 : goal.returns-then-key-eq0
returns-then-key-eq0 c = λ wanted f. filling_none wanted _ c.if-key-eq0.true

pub loop-at-init : goal.loop-at-init
loop-at-init c = (λ wanted f. f, refl)

pub returns-in_default : goal.returns-in_default
returns-in_default c = λ wanted f. filling_read _ _ _ wanted _ _ _ (c.loop-at.invariant.0 wanted f) c.loop-at-test.true (sym (ap (says span_from) c.in_default.is) ∙ c.span_in.ensures)

pub overflow_add-end : goal.overflow_add-end
overflow_add-end c = omega (arith, (tells (goal.at.overflow_add-end c).In-Ok).suffix)

pub slice_bounds-put_clipped-end : goal.slice_bounds-put_clipped-end
slice_bounds-put_clipped-end c = (tells (goal.at.slice_bounds-put_clipped-end c).In-Ok).suffix

pub overflow_add-len : goal.overflow_add-len
overflow_add-len c = omega (arith, (tells (goal.at.overflow_add-len c).In-Ok).few)

pub loop-at-smaller : goal.loop-at-smaller
loop-at-smaller c = let w = tells (goal.at.loop-at-smaller c).In-Ok in omega (arith, w.least, w.within)

pub loop-at-preserved : goal.loop-at-preserved
loop-at-preserved c = (λ wanted f. filling_more _ _ _ wanted _ _ _ (c.loop-at.invariant.0 wanted f) c.loop-at-test.true _ (read (goal.at.loop-at-preserved c).In-Ok) c.put_clipped.ensures, search rules)

pub returns : goal.returns
returns c = λ wanted f. filling_over _ _ _ wanted _ _ _ (c.loop-at.invariant.0 wanted f) c.loop-at-test.false ∙ ap (λ (n : ℕ). take n wanted) c.loop-at.invariant.1
