-- `look_plain` keeps its promise: one law of the definition for each exit.
-- A region that is good ends inside the block, and a plain row's lengths are small, so that no slice and no
-- sum fails.
use Rattle.std.specs.Prelude.{Some}
use mathlib.Core.Path.{◌≡◌, ap, sym, ◌∙◌}
use native.Mathlib.Omega.{arith}
use lib.Seq.{length-take-le}
use Rattle.step_plain_v2.proofs.Laws.{ahead-odd, ahead_none, ahead_before, ahead_wrong, ahead-not, ahead-tells, ahead-narrow, ahead-good, region-inside}
use Rattle.row_plain_v2.specs.Promise.{plain_from, says_plain}
use Rattle.step_plain_v2.proofs.look_plain.Goals.{In_ok-row}
use Rattle.step_plain_v2.proofs.look_plain.Goals as goal

pub returns-then-key_len-held : goal.returns-then-key_len-held
returns-then-key_len-held c = ahead-odd _ _ _ _ _ _ _ c.if-key_len-held.true

pub returns-in_default : goal.returns-in_default
returns-in_default c = ahead_none _ _ _ _ _ _ _ c.if-key_len-held.false c.in_default.ensures

pub returns-then-at-g : goal.returns-then-at-g
returns-then-at-g c = ahead_before _ _ _ _ _ _ _ c.if-key_len-held.false _ c.in-Ok.ensures c.if-at-g.true

pub returns-then-wrong_here : goal.returns-then-wrong_here
returns-then-wrong_here c =
    ahead_wrong _ _ _ _ _ _ _ c.if-key_len-held.false _ c.in-Ok.ensures c.if-at-g.false (sym c.wrong_here.ensures ∙ c.if-wrong_here.true)

pub slice_bounds-plain_at-end : goal.slice_bounds-plain_at-end
slice_bounds-plain_at-end c =
    sym (length-take-le _ _ (region-inside _ _ _ c.in-Ok.ensures))

-- the plain row that was met
met : (k : In_ok-row) → says_plain k.plain_at.result ≡ Some (plain_from k.in_ok-row.row)
met k = ap says_plain k.in_ok-row.was

pub returns-in_err-row : goal.returns-in_err-row
returns-in_err-row c = rw c.from_residual.ensures (ahead-not _ _ _ _ _ _ _ c.if-key_len-held.false _ c.in-Ok.ensures c.if-at-g.false (sym c.wrong_here.ensures ∙ c.if-wrong_here.false) c.pick-most.ensures c.plain_at.ensures (ap says_plain c.in_err-row.was))

pub overflow_add-row : goal.overflow_add-row
overflow_add-row c =
    let a = c.args in
    let w = ahead-tells a.block.now a.region a.at a.number a.key_len a.held a.room c.if-key_len-held.false _ c.in-Ok.ensures c.if-at-g.false (sym c.wrong_here.ensures ∙ c.if-wrong_here.false) c.pick-most.ensures c.plain_at.ensures _ (met (goal.at.overflow_add-row c).In_ok-row) in
    omega (arith, w.shared-small, w.unshared-small)

pub returns-then-room-row : goal.returns-then-room-row
returns-then-room-row c = ahead-narrow _ _ _ _ _ _ _ c.if-key_len-held.false _ c.in-Ok.ensures c.if-at-g.false (sym c.wrong_here.ensures ∙ c.if-wrong_here.false) c.pick-most.ensures c.plain_at.ensures _ (met (goal.at.returns-then-room-row c).In_ok-row) c.if-room-row.true

pub returns : goal.returns
returns c = ahead-good _ _ _ _ _ _ _ c.if-key_len-held.false _ c.in-Ok.ensures c.if-at-g.false (sym c.wrong_here.ensures ∙ c.if-wrong_here.false) c.pick-most.ensures c.plain_at.ensures _ (met (goal.at.returns c).In_ok-row) c.if-room-row.false
