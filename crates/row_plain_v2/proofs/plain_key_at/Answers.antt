-- `plain_key_at` keeps its promise: each exit is one law of `Laws.Plain`, over the three lengths as numbers.
-- The first two tests put the three length bytes inside the data, so that they can be read.
use Rattle.layout.proofs.Laws.Plain.{key-short, key_late, key-odd, key-plain}
use Rattle.row_plain_v2.proofs.plain_key_at.Goals as goal

pub returns-then-region_end-s : goal.returns-then-region_end-s
returns-then-region_end-s c = key-short _ _ _ c.if-region_end-s.true

pub returns-then-region_end-at : goal.returns-then-region_end-at
returns-then-region_end-at c = key_late _ _ _ c.if-region_end-s.false c.if-region_end-at.true

pub returns-then-shared-unshared : goal.returns-then-shared-unshared
returns-then-shared-unshared c = key-odd _ _ _ c.if-region_end-s.false c.if-region_end-at.false _ _ _ c.from-shared.ensures c.from-unshared.ensures c.from-value_len.ensures c.if-shared-unshared.true

pub returns : goal.returns
returns c = key-plain _ _ _ c.if-region_end-s.false c.if-region_end-at.false _ _ _ c.from-shared.ensures c.from-unshared.ensures c.from-value_len.ensures c.if-shared-unshared.false
