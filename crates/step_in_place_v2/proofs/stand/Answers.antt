-- `stand` keeps its promise: 18 for the key's bytes, 14, 18 for the region number and for the key, the mark, whatever the key's bytes are.
-- Each exit is a law of the definition at the trailer that was read.
use mathlib.Core.Path.{◌≡◌, sym}
use Rattle.layout.specs.Res.{ok}
use Rattle.layout.specs.Cursor.{step_is, done}
use Rattle.layout.specs.Trailer.{trailer_of}
use Rattle.layout.proofs.Laws.Cursor.{next-trailer, next-region, next-key, next-marked}
use Rattle.trailer.specs.Says.{trailer_from}
use Rattle.place_v2.specs.Says.{view_in}
use Rattle.step_in_place_v2.proofs.Laws.{stand-other, stand-not, stand-handed, stand_as}
use Rattle.step_in_place_v2.proofs.stand.Goals.{In_ok-t}
use Rattle.step_in_place_v2.proofs.stand.Goals as goal

trailer-read : (k : In_ok-t) → trailer_of k.args.block.now ≡ ok (trailer_from k.in_ok-t.t)
trailer-read k = sym k.in_ok-t.ensures

pub returns-then-held-ne-MAX_KEY : goal.returns-then-held-ne-MAX_KEY
returns-then-held-ne-MAX_KEY c = stand-other _ _ _ c.if-held-ne-MAX_KEY.true

pub returns-in_err-t : goal.returns-in_err-t
returns-in_err-t c =
    stand-handed _ _ _ _ _ c.from_residual.ensures.1 (stand-not _ _ _ c.if-held-ne-MAX_KEY.false (λ k room. next-trailer _ _ _ (sym c.in_err-t.ensures)))

pub returns-then-t-p : goal.returns-then-t-p
returns-then-t-p c = stand-not _ _ _ c.if-held-ne-MAX_KEY.false (λ k room. next-region _ _ _ _ (trailer-read (goal.at.returns-then-t-p c).In_ok-t) c.if-t-p.true)

pub returns-then-p-gt-MAX_KEY : goal.returns-then-p-gt-MAX_KEY
returns-then-p-gt-MAX_KEY c = stand-not _ _ _ c.if-held-ne-MAX_KEY.false (λ k room. next-key _ _ _ _ (trailer-read (goal.at.returns-then-p-gt-MAX_KEY c).In_ok-t) c.if-t-p.false c.if-p-gt-MAX_KEY.true)

pub returns-then-p : goal.returns-then-p
returns-then-p c = stand_as _ _ _ c.if-held-ne-MAX_KEY.false {w = λ k room. ok (step_is (view_in c.args.p k) done)} (λ k room. next-marked _ _ _ _ (trailer-read (goal.at.returns-then-p c).In_ok-t) c.if-t-p.false c.if-p-gt-MAX_KEY.false c.if-p.true)

pub returns : goal.returns
returns c = (c.if-held-ne-MAX_KEY.false, record { read = trailer-read (goal.at.returns c).In_ok-t; inside = c.if-t-p.false; few = c.if-p-gt-MAX_KEY.false; unmarked = c.if-p.false })
