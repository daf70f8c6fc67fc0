-- `look_behind` finds what the definition's step down does, or the region that it reads: 15, 18, 18, at the region's start 18 for the number, "done" or 15 for the region before.
-- Each exit is a law of the step, over the regions that were read on the way to it.
use Prim.Native.Nat.{◌-◌}
use mathlib.Core.Path.{◌≡◌}
use native.Mathlib.Omega.{arith}
use Rattle.layout.specs.Res.{ok}
use Rattle.layout.specs.Trailer.{region_of}
use Rattle.layout.proofs.Laws.Cursor.{down-region, down-before, down-past, down_wrong, down-done, down-before-no, down-before_in, down_in}
use Rattle.trailer.specs.Laws.{region-known}
use Rattle.trailer.specs.Says.{trailer_from, region_from}
use Rattle.step_in_place_v2.proofs.Laws.{stands-has, before-has, behind-not, behind-handed, behind-start, behind_in, before-starts}
use Rattle.step_in_place_v2.proofs.look_behind.Goals.{Else-region-at-2, In_ok-region, In_ok-before}
use Rattle.step_in_place_v2.proofs.look_behind.Goals as goal

region-read : (k : In_ok-region) → let a = k.args in region_of a.block.now (trailer_from a.t) a.p.region ≡ ok (region_from k.in_ok-region.region)
region-read k = region-known _ _ _ (stands-has k.requires) k.in_ok-region.ensures

-- at the region's start, with no row passed
at-start : (e : Else-region-at-2) → e.args.p.at ≡ e.in_ok-region.region.start
at-start e = let a = e.if-at-region.false in let b = e.if-region-at-2.false in omega arith

before-read : (k : In_ok-before) → let a = k.args in region_of a.block.now (trailer_from a.t) (a.p.region - 1) ≡ ok (region_from k.in_ok-before.before)
before-read k = region-known _ _ _ (before-has k.requires) k.in_ok-before.ensures

pub returns-in_err-region : goal.returns-in_err-region
returns-in_err-region c =
    behind-handed _ _ _ _ _ c.from_residual.ensures.1 λ key room. down-region _ _ _ _ (region-known _ _ _ (stands-has c.requires) c.in_err-region.ensures)

pub returns-then-at-region : goal.returns-then-at-region
returns-then-at-region c = behind-not _ _ _ λ key room. down-before _ _ _ _ _ (region-read (goal.at.returns-then-at-region c).In_ok-region) c.if-at-region.true

pub returns-then-region-at : goal.returns-then-region-at
returns-then-region-at c = behind-not _ _ _ λ key room. down-past _ _ _ _ _ (region-read (goal.at.returns-then-region-at c).In_ok-region) c.if-at-region.false c.if-region-at.true

pub returns-then-region-at-2 : goal.returns-then-region-at-2
returns-then-region-at-2 c =
    behind_in _ _ _ (c.if-region-at-2.true, region-read (goal.at.returns-then-region-at-2 c).In_ok-region) λ key room.
    down_in _ _ _ _ _ (region-read (goal.at.returns-then-region-at-2 c).In_ok-region) c.if-at-region.false c.if-region-at.false λ e. absurd (let h = c.if-region-at-2.true in omega arith)

pub returns-then-p-gt0 : goal.returns-then-p-gt0
returns-then-p-gt0 c =
    behind-not _ _ _ λ key room. down_wrong _ _ _ _ _ (region-read (goal.at.returns-then-p-gt0 c).In_ok-region) c.if-at-region.false c.if-region-at.false (at-start (goal.at.returns-then-p-gt0 c).Else-region-at-2) c.if-p-gt0.true

pub returns-then-index-eq0 : goal.returns-then-index-eq0
returns-then-index-eq0 c =
    behind-start _ _ _ λ key room. down-done _ _ _ _ _ (region-read (goal.at.returns-then-index-eq0 c).In_ok-region) c.if-at-region.false c.if-region-at.false (at-start (goal.at.returns-then-index-eq0 c).Else-region-at-2) c.if-p-gt0.false c.if-index-eq0.true

pub returns-in_err-before : goal.returns-in_err-before
returns-in_err-before c =
    behind-handed _ _ _ _ _ c.from_residual-in_err-before.ensures.1 λ key room.
    down-before-no _ _ _ _ _ (region-read (goal.at.returns-in_err-before c).In_ok-region) c.if-at-region.false c.if-region-at.false (at-start (goal.at.returns-in_err-before c).Else-region-at-2) c.if-p-gt0.false c.if-index-eq0.false
    (region-known _ _ _ (before-has c.requires) c.in_err-before.ensures)

pub returns : goal.returns
returns c =
    let first = before-starts _ _ _ _ _ c.requires.inside c.if-index-eq0.false (region-read (goal.at.returns c).In_ok-region) (before-read (goal.at.returns c).In_ok-before) in
    let here = at-start (goal.at.returns c).Else-region-at-2 in
    behind_in _ _ _ (omega arith, before-read (goal.at.returns c).In_ok-before) λ key room.
    down-before_in _ _ _ _ _ (region-read (goal.at.returns c).In_ok-region) c.if-at-region.false c.if-region-at.false (at-start (goal.at.returns c).Else-region-at-2) c.if-p-gt0.false c.if-index-eq0.false (before-read (goal.at.returns c).In_ok-before)
