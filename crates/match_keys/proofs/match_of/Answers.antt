-- `match_of` keeps its promise: the byte after what both begin with decides.
use Rattle.match_keys.specs.Laws.{of-ended, of-short, of-byte}
use Rattle.match_keys.proofs.match_of.Goals as goal

pub returns-then-b-n : goal.returns-then-b-n
returns-then-b-n c = of-ended _ _ c.common_prefix-n.ensures c.if-b-n.true

pub returns-then-a-n : goal.returns-then-a-n
returns-then-a-n c = of-short _ _ c.common_prefix-n.ensures c.if-a-n.true c.if-b-n.false

pub returns : goal.returns
returns c = of-byte _ _ c.common_prefix-n.ensures c.if-a-n.false c.if-b-n.false
