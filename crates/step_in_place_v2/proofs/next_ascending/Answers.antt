-- `next_ascending` keeps the promise of a step up: what `look_ahead` answers is what the definition does, and a row is passed.
-- Each arm turns that answer into the step that is wanted.
use mathlib.Core.Path.{sym}
use Rattle.step_in_place_v2.proofs.Laws.{ready-row, ahead-said, moves-handed, moves-done, moves_as}
use Rattle.step_in_place_v2.proofs.next_ascending.Goals as goal

pub returns-in_err-looked : goal.returns-in_err-looked
returns-in_err-looked c = moves-handed _ _ _ _ _ _ c.from_residual.ensures.1 (sym (c.in_err-looked.ensures.says _))

pub pass-requires : goal.pass-requires
pass-requires c =
    record { key_len = c.requires.key_len; stands = c.requires.stands; fits = ready-row _ _ _ c.in_ok-looked.ensures.ready c.in-Some.is }

pub returns-in-Some : goal.returns-in-Some
returns-in-Some c = moves_as _ _ _ _ (ahead-said _ _ _ _ _ c.in_ok-looked.ensures c.in-Some.is) c.pass.ensures

pub returns-in-None : goal.returns-in-None
returns-in-None c = moves-done _ _ _ _ (ahead-said _ _ _ _ _ c.in_ok-looked.ensures c.in-None.is) c.finished.ensures
