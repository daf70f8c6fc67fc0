-- `head_at` keeps to the definition: the lengths, then the key's tests one by one.
-- Each exit is a law of the definition, over the tests that were passed on the way to it.
use Prim.Native.Nat.{◌≤◌}
use mathlib.Core.Path.{sym}
use Rattle.layout.specs.RowRead.{may_share}
use Rattle.layout.proofs.Laws.RowExits.{head-no, head-share, head-empty, head-long, head-good}
use Rattle.basics.specs.Answers.{handed-on}
use Rattle.row_decode_v2.specs.Reading.{lengths_from}
use Rattle.row_decode_v2.proofs.head_at.Goals.{Else-most-shared}
use Rattle.row_decode_v2.proofs.head_at.Goals as goal

shares : (e : Else-most-shared) → let a = e.args in e.in_ok-head.head.shared ≤ may_share a.restart a.previous_len
shares e = rw e.may_share-most.ensures at e.if-most-shared.false

pub returns-in_err-head : goal.returns-in_err-head
returns-in_err-head c = handed-on lengths_from _ _ c.from_residual.ensures.1 (head-no _ _ _ _ (sym c.in_err-head.ensures))

pub returns-then-most-shared : goal.returns-then-most-shared
returns-then-most-shared c = head-share _ _ _ _ (sym c.in_ok-head.ensures) (rw c.may_share-most.ensures at c.if-most-shared.true)

pub returns-then-shared-unshared-eq0 : goal.returns-then-shared-unshared-eq0
returns-then-shared-unshared-eq0 c =
    head-empty _ _ _ _ (sym c.in_ok-head.ensures) (shares (goal.at.returns-then-shared-unshared-eq0 c).Else-most-shared) c.if-shared-unshared-eq0.true

pub returns-then-shared-unshared-gt-MAX_KEY : goal.returns-then-shared-unshared-gt-MAX_KEY
returns-then-shared-unshared-gt-MAX_KEY c =
    head-long _ _ _ _ (sym c.in_ok-head.ensures) (shares (goal.at.returns-then-shared-unshared-gt-MAX_KEY c).Else-most-shared) c.if-shared-unshared-gt-MAX_KEY.true

pub returns : goal.returns
returns c =
    head-good _ _ _ _ (sym c.in_ok-head.ensures) (shares (goal.at.returns c).Else-most-shared) c.if-shared-unshared-eq0.false c.if-shared-unshared-gt-MAX_KEY.false
