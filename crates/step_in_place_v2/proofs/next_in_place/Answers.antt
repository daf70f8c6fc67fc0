-- `next_in_place` keeps its promise: what `stand` answers, or the step up or down.
use mathlib.Core.Path.{refl, ap}
use Rattle.layout.proofs.Laws.Cursor.{next_up, next_down}
use Rattle.basics.specs.Says.{says_order}
use Rattle.step_in_place_v2.specs.Lent.{lent-whole}
use Rattle.step_in_place_v2.proofs.Laws.{moves-handed, moves-over, moves_as, stand-said, heads-on}
use Rattle.step_in_place_v2.proofs.next_in_place.Goals as goal

pub returns-in_err-standing : goal.returns-in_err-standing
returns-in_err-standing c = moves-handed _ _ _ _ _ _ c.from_residual.ensures.1 (c.in_err-standing.ensures _ _ refl)

pub returns-in_default : goal.returns-in_default
returns-in_default c = moves-over _ _ _ _ (stand-said _ _ _ c.in_ok-standing.ensures c.in_default.is _ _ refl)

pub next_ascending-requires : goal.next_ascending-requires
next_ascending-requires c =
    let said = stand-said _ _ _ c.in_ok-standing.ensures c.in-Some.is in
    record { key_len = said.0; stands = heads-on _ _ said.1 (ap says_order c.in-Ascending.is) }

pub next_descending-requires : goal.next_descending-requires
next_descending-requires c =
    heads-on _ _ (stand-said _ _ _ c.in_ok-standing.ensures c.in-Some.is).1 (ap says_order c.in-Descending.is)

pub returns-in-Ascending : goal.returns-in-Ascending
returns-in-Ascending c =
    let said = stand-said _ _ _ c.in_ok-standing.ensures c.in-Some.is in
    let s = said.1 in
    moves_as _ _ _ _ (lent-whole _ _ _ _ said.0 (next_up _ _ _ _ s.read s.inside s.few s.unmarked (ap says_order c.in-Ascending.is))) c.next_ascending.ensures

pub returns-in-Descending : goal.returns-in-Descending
returns-in-Descending c =
    let said = stand-said _ _ _ c.in_ok-standing.ensures c.in-Some.is in
    let s = said.1 in
    moves_as _ _ _ _ (lent-whole _ _ _ _ said.0 (next_down _ _ _ _ s.read s.inside s.few s.unmarked (ap says_order c.in-Descending.is))) (c.next_descending.ensures _)
