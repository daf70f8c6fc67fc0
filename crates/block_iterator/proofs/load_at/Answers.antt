-- `load_at` answers what the definition's step to the row does, or the row and where the first key lies: row 0's key, 15, the row's refusals, 19, in this order.
-- Each exit is a law of the step, over the first key, the bounds and the row that were read on the way to it. The trailer was read from the block, so that it has them.
use Prim.Native.Nat.{◌+◌, ◌*◌, ◌<◌}
use mathlib.Core.Path.{◌≡◌, sym, ◌∙◌}
use native.Mathlib.Omega.{arith}
use lib.ListN.{length}
use lib.Seq.{length-take-le}
use Rattle.layout.specs.Res.{ok}
use Rattle.layout.specs.Trailer.{data_of, region_of}
use Rattle.layout.proofs.Laws.Trailer.{trailer_of-tells}
use Rattle.layout_v1.specs.RowRead.{read_row}
use Rattle.layout_v1.proofs.Laws.Cursor.{step-first}
use Rattle.layout_v1.proofs.Laws.RowReads.{read_row-ends}
use Rattle.row_decode_v2.specs.Says.{row_from, key_from}
use Rattle.trailer.specs.Laws.{region-known}
use Rattle.trailer.specs.Says.{trailer_from, region_from}
use Rattle.block_keys_v1.specs.Handed.{first_place}
use Rattle.block_keys_v1.specs.Laws.{first-no, first-used}
use Rattle.block_iterator.proofs.Laws.{loads_on, loads_region, loads_no, loads_short, loads_row}
use Rattle.block_iterator.proofs.load_at.Goals.{In_ok-region, In_ok-first, In_ok-row, Start}
use Rattle.block_iterator.proofs.load_at.Goals as goal

has : (s : Start) → (s.args.t.size + (2 + 2 * s.args.t.count) ≡ length s.args.block.now) × (s.args.index < s.args.t.count)
has s = ((trailer_of-tells _ _ s.requires.0).0, s.requires.1)

first_read : (m : In_ok-first) → let a = m.args in first_place a.block.now (trailer_from a.t) ≡ ok (key_from m.in_ok-first.first)
first_read m = sym (first-used _ _ m.requires.0) ∙ sym m.in_ok-first.ensures

region-read : (e : In_ok-region) → let a = e.args in region_of a.block.now (trailer_from a.t) a.index ≡ ok (region_from e.in_ok-region.region)
region-read e = region-known _ _ _ ((trailer_of-tells _ _ e.requires.0).0, e.requires.1) e.in_ok-region.ensures

row_read : (n : In_ok-row) → let a = n.args in let g = n.in_ok-region.region in
    read_row (data_of a.block.now (trailer_from a.t)) g.start g.end n.may_share-most.result ≡ ok (row_from n.in_ok-row.row)
row_read n = sym n.in_ok-row.ensures

pub returns-in_err-first : goal.returns-in_err-first
returns-in_err-first c =
    loads_on _ _ _ _ _ _ c.from_residual.ensures.1 λ x.
    step-first x _ _ _ _ (first-no _ _ (sym (first-used _ _ c.requires.0) ∙ sym c.in_err-first.ensures))

pub returns-in_err-region : goal.returns-in_err-region
returns-in_err-region c =
    loads_region _ _ _ _ _ (first_read (goal.at.returns-in_err-region c).In_ok-first) _ _ c.from_residual-in_err-region.ensures.1
    (region-known _ _ _ (has (goal.at.returns-in_err-region c).Start) c.in_err-region.ensures)

pub slice_bounds-rows-end : goal.slice_bounds-rows-end
slice_bounds-rows-end c = sym (length-take-le _ _ (omega (arith, (has (goal.at.slice_bounds-rows-end c).Start).0)))

pub returns-in_err-row : goal.returns-in_err-row
returns-in_err-row c =
    loads_no _ _ _ _ _ (first_read (goal.at.returns-in_err-row c).In_ok-first) _ (region-read (goal.at.returns-in_err-row c).In_ok-region) c.may_share-most.ensures
    _ _ c.from_residual-in_err-row.ensures.1 (sym c.in_err-row.ensures)

pub overflow_add-row : goal.overflow_add-row
overflow_add-row c = omega (arith, (read_row-ends _ _ _ _ _ (row_read (goal.at.overflow_add-row c).In_ok-row)).fits)

pub returns-then-room-row : goal.returns-then-room-row
returns-then-room-row c =
    loads_short _ _ _ _ _ (first_read (goal.at.returns-then-room-row c).In_ok-first) _ (region-read (goal.at.returns-then-room-row c).In_ok-region) c.may_share-most.ensures _ (row_read (goal.at.returns-then-room-row c).In_ok-row) c.if-room-row.true

pub returns : goal.returns
returns c =
    loads_row _ _ _ _ _ (first_read (goal.at.returns c).In_ok-first) _ (region-read (goal.at.returns c).In_ok-region) c.may_share-most.ensures _ (row_read (goal.at.returns c).In_ok-row) c.if-room-row.false
