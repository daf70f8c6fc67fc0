-- `plain_at` keeps its promise. The definition joins its tests in the code's own words, so each exit is one law of `Laws.Plain`, over the three lengths as numbers.
-- The first two tests put the three length bytes inside the data; the joined one puts the flags byte there, before it is looked at.
use Rattle.layout.proofs.Laws.Plain.{plain-short, plain_late, plain-odd, plain_flagged, plain-good}
use Rattle.row_plain_v2.proofs.plain_at.Goals as goal

pub returns-then-region_end-s : goal.returns-then-region_end-s
returns-then-region_end-s c = plain-short _ _ _ _ c.if-region_end-s.true

pub returns-then-region_end-at : goal.returns-then-region_end-at
returns-then-region_end-at c = plain_late _ _ _ _ c.if-region_end-s.false c.if-region_end-at.true

pub returns-then-shared-unshared : goal.returns-then-shared-unshared
returns-then-shared-unshared c = plain-odd _ _ _ _ c.if-region_end-s.false c.if-region_end-at.false _ _ _ c.from-shared.ensures c.from-unshared.ensures c.from-value_len.ensures c.if-shared-unshared.true

pub returns-then-s-next-gt0 : goal.returns-then-s-next-gt0
returns-then-s-next-gt0 c = plain_flagged _ _ _ _ c.if-region_end-s.false c.if-region_end-at.false _ _ _ c.from-shared.ensures c.from-unshared.ensures c.from-value_len.ensures c.if-shared-unshared.false c.if-s-next-gt0.true

pub returns : goal.returns
returns c = plain-good _ _ _ _ c.if-region_end-s.false c.if-region_end-at.false _ _ _ c.from-shared.ensures c.from-unshared.ensures c.from-value_len.ensures c.if-shared-unshared.false c.if-s-next-gt0.false
