-- `next_descending` keeps the promise of a step down: what `look_behind` answers is what the definition does, and in a region the step goes back.
-- Each arm turns that answer into the step that is wanted.
use mathlib.Core.Path.{sym}
use Rattle.trailer.specs.Says.{trailer_from}
use Rattle.step_in_place_v2.proofs.Laws.{before_in, behind-said, moves-handed, moves-done, moves_as}
use Rattle.step_in_place_v2.proofs.next_descending.Goals as goal

pub returns-in_err-looked : goal.returns-in_err-looked
returns-in_err-looked c = λ key. moves-handed _ _ _ _ _ _ c.from_residual.ensures.1 (sym (c.in_err-looked.ensures.says key _))

pub back-requires : goal.back-requires
back-requires c =
    let b = before_in c.args.p c.args.block.now (trailer_from c.args.t) c.in_ok-looked.ensures.before c.in-Some.is in
    (c.requires.read, b.0, b.1)

pub returns-in-Some : goal.returns-in-Some
returns-in-Some c = λ key. moves_as _ _ _ _ (behind-said _ _ _ _ _ c.in_ok-looked.ensures c.in-Some.is) (c.back.ensures key)

pub returns-in-None : goal.returns-in-None
returns-in-None c = λ key. moves-done _ _ _ _ (behind-said _ _ _ _ _ c.in_ok-looked.ensures c.in-None.is) c.finished.ensures
