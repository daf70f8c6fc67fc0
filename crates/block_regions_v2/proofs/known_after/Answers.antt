-- `known_after` keeps its promise: each exit is a case of the definition.
use Rattle.block_regions_v2.specs.Known.{after-is-none, after-is-first, after-is-second, after-is-same}
use Rattle.block_regions_v2.proofs.known_after.Goals as goal

pub returns-then-shared-eq0 : goal.returns-then-shared-eq0
returns-then-shared-eq0 c = after-is-none _ _ _ _ c.if-shared-eq0.true

pub returns-then-shared-k : goal.returns-then-shared-k
returns-then-shared-k c = after-is-first _ _ _ _ c.if-shared-eq0.false c.if-shared-k.true

pub returns-then-shared-k-2 : goal.returns-then-shared-k-2
returns-then-shared-k-2 c = after-is-second _ _ _ _ c.if-shared-eq0.false c.if-shared-k.false c.if-shared-k-2.true

pub returns : goal.returns
returns c = after-is-same _ _ _ _ c.if-shared-eq0.false c.if-shared-k.false c.if-shared-k-2.false
