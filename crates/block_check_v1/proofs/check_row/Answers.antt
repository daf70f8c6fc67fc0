-- `check_row` leaves the walk before the next row, or the check's refusal.
-- Each exit is a law of the walk, over the region and the row that were read on the way to it.
use Prim.Native.Nat.{◌+◌, ◌*◌, ◌<◌}
use mathlib.Core.Path.{◌≡◌, sym, ap}
use native.Mathlib.Omega.{arith}
use lib.ListN.{length, length-take}
use lib.Seq.{length-take-le}
use Rattle.std.proofs.lemmas.Result.{err_from_is_err_and}
use borrow.Author.Tests.{not-true, not-false}
use Rattle.layout.specs.Res.{ok}
use Rattle.layout.specs.Trailer.{data_of, region_of}
use Rattle.layout.proofs.Laws.Trailer.{trailer_of-tells}
use Rattle.layout_v1.specs.RowRead.{read_row}
use Rattle.trailer.specs.Laws.{region-known}
use Rattle.trailer.specs.Says.{trailer_from, region_from}
use Rattle.row_decode_v2.specs.Says.{row_from}
use Rattle.block_check_v1.proofs.Laws.{walk-region, walk_no, walk-suffix, walk-shares, walk-falls, walk-on}
use mathlib.Core.Bool.{not}
use Rattle.block_check_v1.proofs.check_row.Goals.{In_ok-g, In_ok-row, Start}
use Rattle.block_check_v1.proofs.check_row.Goals as goal

-- the trailer's numbers are the block's, and the row's is one of them
its : (s : Start) → (s.args.t.size + (2 + 2 * s.args.t.count) ≡ length s.args.block.now) × (s.args.r < s.args.t.count)
its s = ((trailer_of-tells _ _ s.requires.block_value).0, s.requires.r_lt_count)

-- the region that was read
used : (k : In_ok-g) → let a = k.args in region_of a.block.now (trailer_from a.t) a.r ≡ ok (region_from k.in_ok-g.g)
used k = region-known _ _ _ ((trailer_of-tells _ _ k.requires.block_value).0, k.requires.r_lt_count) k.in_ok-g.ensures

-- the row that was read
read : (n : In_ok-row) → let a = n.args in let g = n.in_ok-g.g in
    read_row (data_of a.block.now (trailer_from a.t)) g.start g.end a.p.first_len ≡ ok (row_from n.in_ok-row.row)
read n = sym n.in_ok-row.ensures

pub returns-in_err-g : goal.returns-in_err-g
returns-in_err-g c =
    let p = err_from_is_err_and c.from_residual.result c.from_residual.ensures.1 in
    rw (p.1, p.2)
    (walk-region c.args.block.now (trailer_from c.args.t) c.args.r c.args.p c.requires.stands c.requires.r_lt_count (region-known _ _ _ (its (goal.at.returns-in_err-g c).Start) c.in_err-g.ensures))

pub slice_bounds-data-end : goal.slice_bounds-data-end
slice_bounds-data-end c = sym (length-take-le _ _ (omega (arith, (its (goal.at.slice_bounds-data-end c).Start).0)))

pub returns-in_err-row : goal.returns-in_err-row
returns-in_err-row c =
    let p = err_from_is_err_and c.from_residual-in_err-row.result c.from_residual-in_err-row.ensures.1 in
    rw (p.1, p.2)
    (walk_no c.args.block.now (trailer_from c.args.t) c.args.r c.args.p c.requires.stands c.requires.r_lt_count _ (used (goal.at.returns-in_err-row c).In_ok-g) (sym c.in_err-row.ensures))

pub overflow_add-to : goal.overflow_add-to
overflow_add-to c =
    let w = walk-suffix c.args.block.now (trailer_from c.args.t) c.args.r c.args.p c.requires.stands (its (goal.at.overflow_add-to c).Start).1 _ (used (goal.at.overflow_add-to c).In_ok-g) _ (read (goal.at.overflow_add-to c).In_ok-row) in
    omega (arith, w, length-take c.args.t.size c.args.block.now)

pub overflow_add-last_to : goal.overflow_add-last_to
overflow_add-last_to c = omega (arith, c.requires.stands.suffix, length-take c.args.t.size c.args.block.now)

pub slice_bounds-order_of-end : goal.slice_bounds-order_of-end
slice_bounds-order_of-end c =
    walk-suffix c.args.block.now (trailer_from c.args.t) c.args.r c.args.p c.requires.stands (its (goal.at.slice_bounds-order_of-end c).Start).1 _ (used (goal.at.slice_bounds-order_of-end c).In_ok-g) _ (read (goal.at.slice_bounds-order_of-end c).In_ok-row)

pub slice_bounds-order_of-end-2 : goal.slice_bounds-order_of-end-2
slice_bounds-order_of-end-2 c = c.requires.stands.suffix

pub order_of-order-requires : goal.order_of-order-requires
order_of-order-requires c =
    walk-shares c.args.block.now (trailer_from c.args.t) c.args.r c.args.p c.requires.stands (its (goal.at.order_of-order-requires c).Start).1 _ (used (goal.at.order_of-order-requires c).In_ok-g) _ (read (goal.at.order_of-order-requires c).In_ok-row)

pub returns-then-not-may_follow : goal.returns-then-not-may_follow
returns-then-not-may_follow c =
    walk-falls c.args.block.now (trailer_from c.args.t) c.args.r c.args.p c.requires.stands (its (goal.at.returns-then-not-may_follow c).Start).1 _ (used (goal.at.returns-then-not-may_follow c).In_ok-g) _ (read (goal.at.returns-then-not-may_follow c).In_ok-row)
    c.order_of-order.ensures c.may_follow.ensures (not-true _ (ap not c.if-not-may_follow.true))

pub returns : goal.returns
returns c =
    walk-on c.args.block.now (trailer_from c.args.t) c.args.r c.args.p c.requires.stands (its (goal.at.returns c).Start).1 _ (used (goal.at.returns c).In_ok-g) _ (read (goal.at.returns c).In_ok-row)
    c.order_of-order.ensures c.may_follow.ensures (not-false _ (ap not c.if-not-may_follow.false)) c.requires.t_value _ c.first_after.ensures
