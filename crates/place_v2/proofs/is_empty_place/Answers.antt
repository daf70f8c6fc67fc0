-- `is_empty_place` keeps its promise: 14, else the mark, or ascending a position that is not below the data's length.
-- Each exit is a law of the definition at the trailer that was read.
use mathlib.Core.Path.{◌≡◌, sym}
use Rattle.layout.specs.Res.{ok}
use Rattle.layout.specs.Trailer.{trailer_of}
use Rattle.layout.proofs.Laws.Cursor.{empty-trailer}
use Rattle.basics.specs.Answers.{handed-on}
use Rattle.trailer.specs.Says.{trailer_from}
use Rattle.place_v2.proofs.Opens.{empty-marked, empty-up, empty-down}
use Rattle.place_v2.proofs.is_empty_place.Goals.{In_ok-t}
use Rattle.place_v2.proofs.is_empty_place.Goals as goal

trailer-read : (k : In_ok-t) → trailer_of k.args.block.now ≡ ok (trailer_from k.in_ok-t.t)
trailer-read k = sym k.in_ok-t.ensures

pub returns-in_err-t : goal.returns-in_err-t
returns-in_err-t c = λ key. handed-on (λ v. v) _ _ c.from_residual.ensures.1 (sym (empty-trailer _ _ (sym c.in_err-t.ensures)))

pub returns-then-p : goal.returns-then-p
returns-then-p c = empty-marked c.args.p _ _ (trailer-read (goal.at.returns-then-p c).In_ok-t) c.if-p.true

pub returns-in-Ascending : goal.returns-in-Ascending
returns-in-Ascending c = empty-up c.args.p _ _ (trailer-read (goal.at.returns-in-Ascending c).In_ok-t) c.if-p.false c.in-Ascending.is

pub returns-in-Descending : goal.returns-in-Descending
returns-in-Descending c = empty-down c.args.p _ _ (trailer-read (goal.at.returns-in-Descending c).In_ok-t) c.if-p.false c.in-Descending.is
