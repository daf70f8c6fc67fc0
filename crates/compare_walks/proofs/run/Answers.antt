use Rattle.std.proofs.Common.{◌≡◌, ◌+◌, ◌^◌, ◌<◌, eqb, length, take, sym, ◌∙◌, arith, rules}
use Rattle.layout.specs.Res.{Res}
use Rattle.layout.specs.RowRead.{may_share}
use Rattle.trailer.specs.Says.{region_from}
use Rattle.place_v2.specs.Says.{view_in}
use Rattle.region_rows_v2.specs.Region.{PlainFits, moved_to, inside-long, inside-region, inside-counts, share-none, share-key}
use Rattle.compare_walks.specs.Walk.{Walk}
use Rattle.compare_walks.specs.Loop.{Walking}
use Rattle.compare_walks.proofs.Plain.{plain_fits, plain_over, plain-stays, plain-inside}
use Rattle.compare_walks.proofs.run.Goals.{then-at-g, else-at-g, In-Some, Joined-at-g}
use Rattle.compare_walks.proofs.run.Goals as goal

share-is : (j : Joined-at-g)
    → j.if-at-g.most ≡ may_share (eqb j.loop-rows.p.at j.args.b.region.start) j.loop-rows.p.key_len
share-is j = elim j.if-at-g.branch [ then-at-g b ↦ b.most-is ∙ share-none j.loop-rows.p.at j.args.b.region.start j.loop-rows.p.key_len b.if-at-g.true | else-at-g b ↦ b.most-is ∙ share-key j.loop-rows.p.at j.args.b.region.start j.loop-rows.p.key_len b.if-at-g.false ]

-- a plain row that was met
fits : (k : In-Some) → k.if-at-g.most ≡ may_share (eqb k.loop-rows.p.at k.args.b.region.start) k.loop-rows.p.key_len → PlainFits (length (take k.args.b.size k.args.block.now)) k.loop-rows.p.at k.in-Some.row
fits k share =
    let l = k.loop-rows in
    plain_fits k.args.block.now k.args.b.size (region_from k.args.b.region) l.p l.key l.invariant.1 l.invariant.2 k.in-Some.row share k.in-Some.ensures

pub slice_bounds-plain_at-end : goal.slice_bounds-plain_at-end
slice_bounds-plain_at-end c =
    let l = c.loop-rows in
    sym (inside-long c.args.block.now c.args.b.size (region_from c.args.b.region) (view_in l.p l.key) l.invariant.1)

pub slice_bounds-pass_plain-end : goal.slice_bounds-pass_plain-end
slice_bounds-pass_plain-end c =
    let l = c.loop-rows in
    sym (inside-long c.args.block.now c.args.b.size (region_from c.args.b.region) (view_in l.p l.key) l.invariant.1)

pub pass_plain-sum-requires : goal.pass_plain-sum-requires
pass_plain-sum-requires c = (c.loop-rows.invariant.2, fits (goal.at.pass_plain-sum-requires c).In-Some (share-is (goal.at.pass_plain-sum-requires c).Joined-at-g))

pub overflow_add-p : goal.overflow_add-p
overflow_add-p c =
    let l = c.loop-rows in
    let long : length c.args.block.now < 2 ^ 64 = search rules in
    omega (arith, inside-region c.args.block.now c.args.b.size (region_from c.args.b.region) (view_in l.p l.key) l.invariant.1)

pub returns-then-g-row : goal.returns-then-g-row
returns-then-g-row c =
    let l = c.loop-rows in
    let on : (want : Res Walk) → Walking want c.args.block.now c.args.limit (view_in c.args.came.place c.args.key.now) c.args.came.rows c.args.came.sum → Walking want c.args.block.now c.args.limit (view_in (moved_to l.p (l.p.region + 1) c.in-Some.row.next 0 0) c.pass_plain-sum.new.key) (l.rows + 1) c.pass_plain-sum.result =
    λ want w. plain_over c.args.block.now c.args.b.size (region_from c.args.b.region) l.p l.key l.invariant.1 l.invariant.2 c.in-Some.row (share-is (goal.at.returns-then-g-row c).Joined-at-g) c.in-Some.ensures
    c.loop-rows-test.true c.pass_plain-sum.ensures c.if-g-row.true (l.invariant.0 want w) in
    record { most = omega (arith, l.invariant.3); on = on }

-- a row more is counted: there are no more rows than bytes
pub overflow_add-p-in-loop-rows : goal.overflow_add-p-in-loop-rows
overflow_add-p-in-loop-rows c =
    let l = c.loop-rows in
    let ends : c.in-Some.row.next < 2 ^ 64 = search rules in
    omega (arith, inside-counts c.args.block.now c.args.b.size (region_from c.args.b.region) (view_in l.p l.key) l.invariant.1, (fits (goal.at.overflow_add-p-in-loop-rows c).In-Some (share-is (goal.at.overflow_add-p-in-loop-rows c).Joined-at-g)).ends, ends)

pub overflow_add-p-in-loop-rows-2 : goal.overflow_add-p-in-loop-rows-2
overflow_add-p-in-loop-rows-2 c =
    let f = fits (goal.at.overflow_add-p-in-loop-rows-2 c).In-Some (share-is (goal.at.overflow_add-p-in-loop-rows-2 c).Joined-at-g) in
    omega (arith, f.shared-small, f.unshared-small)

pub loop-rows-preserved : goal.loop-rows-preserved
loop-rows-preserved c =
    let l = c.loop-rows in
    let e = c.in-Some.ensures in
    let q = c.pass_plain-sum.ensures in
    let few = c.loop-rows-test.true in (
      (λ want w.
          plain-stays c.args.block.now c.args.b.size (region_from c.args.b.region) l.p l.key l.invariant.1 l.invariant.2 c.in-Some.row (share-is (goal.at.loop-rows-preserved c).Joined-at-g) e few q c.if-g-row.false (l.invariant.0 want w)),
      plain-inside c.args.block.now c.args.b.size (region_from c.args.b.region) l.p l.key l.invariant.1 l.invariant.2 c.in-Some.row (share-is (goal.at.loop-rows-preserved c).Joined-at-g) e few q c.if-g-row.false,
      search rules,
      omega (arith, l.invariant.3),
    )
