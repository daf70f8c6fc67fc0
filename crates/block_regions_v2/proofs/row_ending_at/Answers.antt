use mathlib.Core.Path.{◌≡◌, refl, sym}
use native.Mathlib.Omega.{arith}
use Rattle.layout.specs.Res.{ok}
use Rattle.layout.proofs.Laws.Tells.{read_row-ends}
use Rattle.layout.specs.Trailer.{row_in}
use Rattle.trailer.specs.Says.{region_from}
use Rattle.buf_mut.proofs.Laws.{copied}
use Rattle.row_decode_v2.specs.Says.{row_from}
use Rattle.block_regions_v2.specs.Laws.{gives-not, ending-none, part-most, stands, ended-no, ended-shares, ended-past, ended_wrong, ended-short, ended-put}
use Rattle.block_regions_v2.proofs.row_ending_at.Goals.{In_ok-row}
use Rattle.block_regions_v2.proofs.row_ending_at.Goals as goal

-- `row_ending_at` keeps its promise: the row is found by lengths alone, counted on the way, then tested, and its key is put together where it is wanted.

-- the row that was read
read : (k : In_ok-row) → let a = k.args in
    let q = k.reach-there.result in
    row_in a.data.now (region_from a.region) q.at q.len ≡ ok (row_from k.in_ok-row.row)
read k = sym k.in_ok-row.ensures

pub returns-then-stop-region : goal.returns-then-stop-region
returns-then-stop-region c = gives-not refl (ending-none _ _ _ _ _ c.if-stop-region.true)

pub returns-in_err-row : goal.returns-in_err-row
returns-in_err-row c = ended-no _ _ _ c.args.passed _ c.if-stop-region.false c.reach-there.result c.reach-there.ensures _ _ c.from_residual.ensures.1 (sym c.in_err-row.ensures)

pub returns-then-stop-row : goal.returns-then-stop-row
returns-then-stop-row c = ended-past _ _ _ c.args.passed _ c.if-stop-region.false c.reach-there.result c.reach-there.ensures c.in_ok-row.row (read (goal.at.returns-then-stop-row c).In_ok-row) c.if-stop-row.true

pub returns-then-unwrap_or-ended : goal.returns-then-unwrap_or-ended
returns-then-unwrap_or-ended c =
    let there = c.reach-there in
    ended_wrong _ _ _ c.args.passed _ c.if-stop-region.false there.result there.ensures c.in_ok-row.row (read (goal.at.returns-then-unwrap_or-ended c).In_ok-row) c.if-stop-row.false c.unwrap_or.ensures c.if-unwrap_or-ended.true

pub overflow_add-shared : goal.overflow_add-shared
overflow_add-shared c = omega (arith, (read_row-ends _ _ _ _ _ _ (read (goal.at.overflow_add-shared c).In_ok-row)).fits)

pub returns-then-out-shared : goal.returns-then-out-shared
returns-then-out-shared c =
    let there = c.reach-there in
    ended-short _ _ _ c.args.passed _ c.if-stop-region.false there.result there.ensures c.in_ok-row.row (read (goal.at.returns-then-out-shared c).In_ok-row) c.if-stop-row.false c.unwrap_or.ensures c.if-unwrap_or-ended.false c.if-out-shared.true

pub overflow_add-end : goal.overflow_add-end
overflow_add-end c = omega (arith, (read_row-ends _ _ _ _ _ _ (read (goal.at.overflow_add-end c).In_ok-row)).suffix, c.ranges)

pub slice_bounds-copy_in-end : goal.slice_bounds-copy_in-end
slice_bounds-copy_in-end c =
    (read_row-ends _ _ _ _ _ _ (read (goal.at.slice_bounds-copy_in-end c).In_ok-row)).suffix

pub returns : goal.returns
returns c =
    let a = c.args in
    let there = c.reach-there in
    let h = c.if-stop-region.false in
    let room = c.if-out-shared.false in
    let shares = ended-shares _ _ _ a.passed a.out.now h there.result there.ensures c.in_ok-row.row (read (goal.at.returns c).In_ok-row) in
    ended-put _ _ _ a.passed a.out.now h there.result there.ensures c.in_ok-row.row (read (goal.at.returns c).In_ok-row) c.if-stop-row.false c.unwrap_or.ensures c.if-unwrap_or-ended.false room
    (c.put_shared.ensures _ (stands _ _ _ a.passed a.out.now h there.result there.ensures) shares) (copied (omega (arith, part-most a.data.now c.in_ok-row.row.suffix_at c.in_ok-row.row.suffix_len, room, c.put_shared.auto.out)) c.copy_in.ensures)
