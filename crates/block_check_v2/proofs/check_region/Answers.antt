use Prim.Native.Nat.{◌+◌, ◌*◌, ◌^◌, ◌≤◌, ◌<◌}
use mathlib.Core.Path.{◌≡◌, refl, ap, sym, ◌∙◌}
use native.Mathlib.Omega.{arith}
use lib.Dec.{eqb}
use lib.ListN.{length, length-take}
use lib.Seq.{length-take-le}
use Rattle.std.proofs.lemmas.Result.{err_from_is_err_and}
use borrow.Author.Rules.{rules}
use borrow.Author.Tests.{not-true, not-false}
use Rattle.layout.specs.Res.{ok}
use Rattle.layout.specs.RowRead.{RowRead}
use Rattle.layout.specs.Trailer.{data_of, region_of, row_in}
use Rattle.layout.proofs.Laws.Splice.{length-splice}
use Rattle.layout.specs.Laws.Tells.{RowEnds}
use Rattle.layout.proofs.Laws.Tells.{read_row-ends, row-shares}
use Rattle.layout.proofs.Laws.Trailer.{trailer_of-tells}
use Rattle.buf_mut.proofs.Laws.{copied}
use Rattle.trailer.specs.Laws.{region-known}
use Rattle.trailer.specs.Says.{trailer_from, region_from}
use Rattle.row_span_v2.specs.Laws.{numbered, numbered-known, numbered-no}
use Rattle.row_span_v2.specs.Promise.{numbered_from}
use Rattle.block_check_v2.specs.Laws.{Walks, stands-no, stands-inside, stands-walks, walks-over, walks-no, walks-room, walks-falls, walks-narrow, walks_more, may-told, the_trailer}
use mathlib.Core.Bool.{not}
use Rattle.block_check_v2.proofs.check_region.Goals.{At-loop-at, In_ok-g, In_ok-row, Start}
use Rattle.block_check_v2.proofs.check_region.Goals as goal

-- a length fits a word
short : (s : Start) → length s.args.block.now < 2 ^ 64
short s = search rules

-- the region's number is one of the trailer's, and its numbers are the block's
its : (s : Start) → (s.args.t.size + (2 + 2 * s.args.t.count) ≡ length s.args.block.now) × (s.args.p.region < s.args.t.count)
its s = ((trailer_of-tells _ _ s.requires.block_value).0, (s.requires.stands.starts s.requires.at_lt_size).0)

-- the region that was read
used : (k : In_ok-g) → let a = k.args in region_of a.block.now (trailer_from a.t) a.p.region ≡ ok (region_from k.in_ok-g.g)
used k = region-known _ _ _ ((trailer_of-tells _ _ k.requires.block_value).0, (k.requires.stands.starts k.requires.at_lt_size).0) k.in_ok-g.ensures

walk : (l : At-loop-at) → Walks l.args.block.now (trailer_from l.args.t) l.args.p.region (region_from l.in_ok-g.g) l.loop-at.at l.loop-at.rows l.loop-at.seq l.loop-at.key l.loop-at.key_len
walk l = l.loop-at.invariant.1 _ l.requires.block_value

-- the row that was read, with the numbers that were answered of it
known : (n : In_ok-row) → let p = n.in_ok-row.row in
    (x : RowRead) × (row_in (data_of n.args.block.now (trailer_from n.args.t)) (region_from n.in_ok-g.g) n.loop-at.at n.loop-at.key_len ≡ ok (numbered x (numbered_from p).span p.seq))
known n = numbered-known _ (numbered_from n.in_ok-row.row) n.in_ok-row.ensures

abbrev row : In_ok-row → RowRead
row n = numbered (known n).0 (numbered_from n.in_ok-row.row).span n.in_ok-row.row.seq

read : (n : In_ok-row) → row_in (data_of n.args.block.now (trailer_from n.args.t)) (region_from n.in_ok-g.g) n.loop-at.at n.loop-at.key_len ≡ ok (row n)
read n = (known n).1

told : (n : In_ok-row) → RowEnds (data_of n.args.block.now (trailer_from n.args.t)) n.loop-at.at n.in_ok-g.g.end n.loop-at.key_len (eqb n.loop-at.at n.in_ok-g.g.start) (row n)
told n = read_row-ends _ _ _ _ _ _ (read n)

shares : (n : In_ok-row) → (row n).shared ≤ n.loop-at.key_len
shares n = row-shares _ _ _ _ _ _ (told n)

pub returns-in_err-g : goal.returns-in_err-g
returns-in_err-g c =
    let p = err_from_is_err_and c.from_residual.result c.from_residual.ensures.1 in
    rw (p.1, p.2)
    (stands-no _ _ _ _ c.requires.stands c.requires.at_lt_size (region-known _ _ _ (its (goal.at.returns-in_err-g c).Start) c.in_err-g.ensures))

pub slice_bounds-data-end : goal.slice_bounds-data-end
slice_bounds-data-end c = sym (length-take-le _ _ (omega (arith, (trailer_of-tells _ _ c.requires.block_value).0)))

pub loop-at-init : goal.loop-at-init
loop-at-init c =
    (refl, the_trailer _ _ _ c.requires.block_value (stands-walks _ _ _ _ c.requires.stands c.requires.at_lt_size _ (used (goal.at.loop-at-init c).In_ok-g)))

pub returns-in_err-row : goal.returns-in_err-row
returns-in_err-row c =
    let p = err_from_is_err_and c.from_residual-in_err-row.result c.from_residual-in_err-row.ensures.1 in
    rw (p.1, p.2)
    (walks-no _ _ _ _ (used (goal.at.returns-in_err-row c).In_ok-g) _ _ _ _ _ (walk (goal.at.returns-in_err-row c).At-loop-at) c.loop-at-test.true (numbered-no _ c.in_err-row.ensures))

pub overflow_add-to : goal.overflow_add-to
overflow_add-to c =
    omega (arith, (told (goal.at.overflow_add-to c).In_ok-row).suffix, length-take c.args.t.size c.args.block.now, short (goal.at.overflow_add-to c).Start)

pub slice_bounds-compare-end : goal.slice_bounds-compare-end
slice_bounds-compare-end c = (told (goal.at.slice_bounds-compare-end c).In_ok-row).suffix

pub slice_bounds-compare-count-in-loop-at : goal.slice_bounds-compare-count-in-loop-at
slice_bounds-compare-count-in-loop-at c = shares (goal.at.slice_bounds-compare-count-in-loop-at c).In_ok-row

pub slice_bounds-compare-start-in-loop-at : goal.slice_bounds-compare-start-in-loop-at
slice_bounds-compare-start-in-loop-at c = shares (goal.at.slice_bounds-compare-start-in-loop-at c).In_ok-row

pub slice_bounds-compare-end-in-loop-at : goal.slice_bounds-compare-end-in-loop-at
slice_bounds-compare-end-in-loop-at c = (walk (goal.at.slice_bounds-compare-end-in-loop-at c).At-loop-at).goes.room

pub returns-then-not-may_follow : goal.returns-then-not-may_follow
returns-then-not-may_follow c =
    walks-falls _ _ _ _ (used (goal.at.returns-then-not-may_follow c).In_ok-g) _ _ _ _ _ (walk (goal.at.returns-then-not-may_follow c).At-loop-at) c.loop-at-test.true _ (read (goal.at.returns-then-not-may_follow c).In_ok-row) (may-told _ _ _ _ c.compare-order.ensures c.may_follow.ensures (not-true _ (ap not c.if-not-may_follow.true)))

pub overflow_add-key_len : goal.overflow_add-key_len
overflow_add-key_len c = omega (arith, (told (goal.at.overflow_add-key_len c).In_ok-row).fits)

pub returns-then-key-key_len : goal.returns-then-key-key_len
returns-then-key-key_len c =
    walks-narrow _ _ _ _ (used (goal.at.returns-then-key-key_len c).In_ok-g) _ _ _ _ _ (walk (goal.at.returns-then-key-key_len c).At-loop-at) c.loop-at-test.true _ (read (goal.at.returns-then-key-key_len c).In_ok-row) c.if-key-key_len.true

pub slice_bounds-copy_in-end : goal.slice_bounds-copy_in-end
slice_bounds-copy_in-end c = (told (goal.at.slice_bounds-copy_in-end c).In_ok-row).suffix

pub overflow_add-rows : goal.overflow_add-rows
overflow_add-rows c = let f = (walk (goal.at.overflow_add-rows c).At-loop-at).goes.few in omega (arith, (told (goal.at.overflow_add-rows c).In_ok-row).least)

pub loop-at-smaller : goal.loop-at-smaller
loop-at-smaller c = let w = told (goal.at.loop-at-smaller c).In_ok-row in omega (arith, w.least, w.within)

pub loop-at-preserved : goal.loop-at-preserved
loop-at-preserved c =
    let u = used (goal.at.loop-at-preserved c).In_ok-g in
    let t = c.loop-at-test.true in
    let k = c.if-key-key_len.false in
    let r = walks-room _ _ _ _ u _ _ _ _ _ (walk (goal.at.loop-at-preserved c).At-loop-at) t _ (read (goal.at.loop-at-preserved c).In_ok-row) k in
    let q = copied r c.copy_in.ensures in (
      ap length q ∙ length-splice _ _ _ r ∙ c.loop-at.invariant.0,
      the_trailer _ _ _ c.requires.block_value
          (walks_more _ _ _ _ u _ _ _ _ _ (walk (goal.at.loop-at-preserved c).At-loop-at) t _ (read (goal.at.loop-at-preserved c).In_ok-row) k (may-told _ _ _ _ c.compare-order.ensures c.may_follow.ensures (not-false _ (ap not c.if-not-may_follow.false))) _ q),
    )

pub returns : goal.returns
returns c =
    let u = used (goal.at.returns c).In_ok-g in
    let over = c.loop-at-test.false in
    (omega (arith, stands-inside _ _ _ _ c.requires.stands c.requires.at_lt_size _ u), walks-over _ _ _ _ u _ _ _ _ _ (walk (goal.at.returns c).At-loop-at) over)
