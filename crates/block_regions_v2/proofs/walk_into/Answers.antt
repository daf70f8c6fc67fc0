use mathlib.Core.Path.{sym}
use lib.Seq.{length-take-le}
use Rattle.block_regions_v2.specs.Laws.{handed-promise, into_strange, into-no, into-end, into-short, into-room, into-done}
use Rattle.block_regions_v2.specs.Promise.{WalksInto}
use Rattle.block_regions_v2.proofs.walk_into.Goals as goal

-- `walk_into` keeps its promise: the walk's place, and where that lies inside the region the key that the second read leaves.
-- Each exit is one law over where the walk stopped.

pub returns-then-data-region : goal.returns-then-data-region
returns-then-data-region c = into_strange _ _ _ _ c.if-data-region.true

pub returns-in_err-there : goal.returns-in_err-there
returns-in_err-there c =
    let a = c.args in
    handed-promise (λ x. WalksInto a.data.now a.region a.target.now a.key.now x a.key.now) _ _ c.from_residual.ensures.1 (into-no _ _ _ _ c.if-data-region.false c.in_err-there.ensures)

pub returns-then-region-at : goal.returns-then-region-at
returns-then-region-at c = into-end _ _ _ _ c.if-data-region.false _ c.in_ok-there.ensures c.if-region-at.true

pub returns-then-key-key_len : goal.returns-then-key-key_len
returns-then-key-key_len c = into-short _ _ _ _ c.if-data-region.false _ c.in_ok-there.ensures c.if-region-at.false c.if-key-key_len.true

pub slice_bounds-rebuild_from-end-2 : goal.slice_bounds-rebuild_from-end-2
slice_bounds-rebuild_from-end-2 c =
    sym (length-take-le _ _ c.if-key-key_len.false)

pub returns : goal.returns
returns c =
    let h = c.in_ok-there in
    let room = into-room _ _ _ _ c.if-data-region.false _ h.ensures c.if-region-at.false c.if-key-key_len.false in
    into-done _ _ _ _ c.if-data-region.false _ h.ensures c.if-region-at.false c.if-key-key_len.false (c.rebuild_from.ensures _ h.ensures.climbs.based room)
