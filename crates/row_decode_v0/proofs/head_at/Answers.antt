-- `head_at` keeps to the definition: two lengths, then the key's tests one by one.
-- Each exit is a law of the definition, over what was read and passed on the way to it. Both lengths are of two bytes, so that their sum does not wrap.
use mathlib.Core.Path.{sym}
use Rattle.layout_v1.proofs.Laws.RowReads.{head-one, head-two, head-share, head-empty, head-long, head-good}
use Rattle.basics.specs.Answers.{handed-on}
use Rattle.row_decode_v0.specs.Reading.{head_from}
use Rattle.row_decode_v0.proofs.head_at.Goals as goal

pub returns-in_err-prefix : goal.returns-in_err-prefix
returns-in_err-prefix c = handed-on head_from _ _ c.from_residual.ensures.1 (head-one _ _ _ (sym c.in_err-prefix.ensures.0))

pub returns-in_err-suffix : goal.returns-in_err-suffix
returns-in_err-suffix c =
    handed-on head_from _ _ c.from_residual-in_err-suffix.ensures.1 (head-two _ _ _ (sym c.in_ok-prefix.ensures.0) (sym c.in_err-suffix.ensures.0))

pub returns-then-most-shared : goal.returns-then-most-shared
returns-then-most-shared c = head-share _ _ _ (sym c.in_ok-prefix.ensures.0) (sym c.in_ok-suffix.ensures.0) c.if-most-shared.true

pub returns-then-shared-unshared-eq0 : goal.returns-then-shared-unshared-eq0
returns-then-shared-unshared-eq0 c =
    head-empty _ _ _ (sym c.in_ok-prefix.ensures.0) (sym c.in_ok-suffix.ensures.0) c.if-most-shared.false c.if-shared-unshared-eq0.true

pub returns-then-shared-unshared-gt-MAX_KEY : goal.returns-then-shared-unshared-gt-MAX_KEY
returns-then-shared-unshared-gt-MAX_KEY c =
    head-long _ _ _ (sym c.in_ok-prefix.ensures.0) (sym c.in_ok-suffix.ensures.0) c.if-most-shared.false c.if-shared-unshared-gt-MAX_KEY.true

pub returns : goal.returns
returns c =
    head-good _ _ _ (sym c.in_ok-prefix.ensures.0) (sym c.in_ok-suffix.ensures.0) c.if-most-shared.false c.if-shared-unshared-eq0.false c.if-shared-unshared-gt-MAX_KEY.false
