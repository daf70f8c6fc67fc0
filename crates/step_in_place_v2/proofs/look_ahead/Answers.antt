-- `look_ahead` answers what the definition's step up does, or the row with its region: 15, 18, 18, 18 for the number, "done", the row's refusals, 19, in this order.
-- Each exit is a law of the step, over the region and the row that were read on the way to it.
use Prim.Native.Nat.{◌-◌}
use mathlib.Core.Path.{◌≡◌, sym, ◌∙◌}
use mathlib.Core.Bool.{false}
use native.Mathlib.Omega.{arith}
use lib.ListN.{take}
use lib.Seq.{length-take-le}
use Rattle.layout.specs.Res.{ok}
use Rattle.layout.specs.Number.{wrong_after}
use Rattle.layout.specs.Trailer.{region_of, row_in}
use Rattle.layout.proofs.Laws.Cursor.{up-region, up-before, up-past, up_wrong, up_done, up-row, up-short, up-found}
use Rattle.layout.proofs.Laws.Tells.{read_row-ends}
use Rattle.layout.proofs.Laws.Trailer.{trailer_of-tells}
use Rattle.row_decode_v2.specs.Says.{row_from}
use Rattle.trailer.specs.Laws.{region-known}
use Rattle.trailer.specs.Says.{trailer_from, region_from}
use Rattle.step_in_place_v2.proofs.Laws.{stands-has, ahead-not, ahead-handed, ahead-end, ahead-at}
use Rattle.step_in_place_v2.proofs.look_ahead.Goals.{In_ok-region, Else-wrong_after, In_ok-row}
use Rattle.step_in_place_v2.proofs.look_ahead.Goals as goal

region-read : (k : In_ok-region) → let a = k.args in region_of a.block.now (trailer_from a.t) a.p.region ≡ ok (region_from k.in_ok-region.region)
region-read k = region-known _ _ _ (stands-has k.requires) k.in_ok-region.ensures

-- a number that can be
right : (e : Else-wrong_after) → let a = e.args in wrong_after (a.p.at - e.in_ok-region.region.start) a.p.number ≡ false
right e = sym e.wrong_after.ensures ∙ e.if-wrong_after.false

row_read : (m : In_ok-row) → let s = m.args in let g = m.in_ok-region.region in
    row_in (take s.t.size s.block.now) (region_from g) s.p.at s.p.key_len ≡ ok (row_from m.in_ok-row.row)
row_read m = sym m.in_ok-row.ensures

pub returns-in_err-region : goal.returns-in_err-region
returns-in_err-region c =
    ahead-handed _ _ _ _ _ _ c.from_residual.ensures.1 λ key. up-region _ _ _ _ (region-known _ _ _ (stands-has c.requires) c.in_err-region.ensures)

pub returns-then-at-region : goal.returns-then-at-region
returns-then-at-region c = ahead-not _ _ _ _ λ key. up-before _ _ _ _ _ (region-read (goal.at.returns-then-at-region c).In_ok-region) c.if-at-region.true

pub returns-then-region-at : goal.returns-then-region-at
returns-then-region-at c = ahead-not _ _ _ _ λ key. up-past _ _ _ _ _ (region-read (goal.at.returns-then-region-at c).In_ok-region) c.if-at-region.false c.if-region-at.true

pub returns-then-wrong_after : goal.returns-then-wrong_after
returns-then-wrong_after c =
    ahead-not _ _ _ _ λ key.
    up_wrong _ _ _ _ _ (region-read (goal.at.returns-then-wrong_after c).In_ok-region) c.if-at-region.false c.if-region-at.false (sym c.wrong_after.ensures ∙ c.if-wrong_after.true)

pub returns-then-at-region-2 : goal.returns-then-at-region-2
returns-then-at-region-2 c =
    ahead-end _ _ _ _ λ key. up_done _ _ _ _ _ (region-read (goal.at.returns-then-at-region-2 c).In_ok-region) c.if-at-region.false c.if-region-at.false (right (goal.at.returns-then-at-region-2 c).Else-wrong_after) c.if-at-region-2.true

pub slice_bounds-decoded_in-end : goal.slice_bounds-decoded_in-end
slice_bounds-decoded_in-end c =
    sym (length-take-le _ _ (omega (arith, (trailer_of-tells _ _ c.requires.read).0)))

pub returns-in_err-row : goal.returns-in_err-row
returns-in_err-row c =
    ahead-handed _ _ _ _ _ _ c.from_residual-in_err-row.ensures.1 λ key.
    up-row _ _ _ _ _ (region-read (goal.at.returns-in_err-row c).In_ok-region) c.if-at-region.false c.if-region-at.false (right (goal.at.returns-in_err-row c).Else-wrong_after) c.if-at-region-2.false (sym c.in_err-row.ensures)

pub overflow_add-row : goal.overflow_add-row
overflow_add-row c = omega (arith, (read_row-ends _ _ _ _ _ _ (row_read (goal.at.overflow_add-row c).In_ok-row)).fits)

pub returns-then-room-row : goal.returns-then-room-row
returns-then-room-row c =
    ahead-not _ _ _ _ λ key. up-short _ _ _ _ _ (region-read (goal.at.returns-then-room-row c).In_ok-region) c.if-at-region.false c.if-region-at.false (right (goal.at.returns-then-room-row c).Else-wrong_after) c.if-at-region-2.false _ (row_read (goal.at.returns-then-room-row c).In_ok-row) c.if-room-row.true

pub returns : goal.returns
returns c =
    ahead-at _ _ _ _ (record { right = right (goal.at.returns c).Else-wrong_after; read = row_read (goal.at.returns c).In_ok-row; held = c.if-room-row.false }) λ key.
    up-found _ _ _ _ _ (region-read (goal.at.returns c).In_ok-region) c.if-at-region.false c.if-region-at.false (right (goal.at.returns c).Else-wrong_after) c.if-at-region-2.false _ (row_read (goal.at.returns c).In_ok-row) c.if-room-row.false
