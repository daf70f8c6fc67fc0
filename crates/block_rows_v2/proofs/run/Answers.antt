use Prim.Native.Nat.{◌+◌, ◌-◌, ◌^◌, ◌<◌}
use borrow.Author.Rules.{rules}
use mathlib.Core.Path.{◌≡◌, refl, sym, ◌∙◌}
use native.Mathlib.Omega.{arith}
use lib.Dec.{eqb}
use lib.ListN.{length, take}
use borrow.Rule.Slice.PartMut.{put_mid, mid_len}
use Rattle.layout.specs.Plain.{plain_read}
use Rattle.layout.specs.RowRead.{may_share, key_of}
use Rattle.layout.specs.Laws.Splice.{Wrote}
use Rattle.layout.proofs.Laws.Splice.{wrote-length}
use Rattle.layout.proofs.Laws.Trailer.{trailer_of-tells}
use Rattle.row_decode_v2.specs.Says.{row_from}
use Rattle.row_plain_v2.specs.Promise.{plain_from}
use Rattle.trailer.specs.Says.{region_from}
use Rattle.place_v2.specs.Says.{view_in}
use Rattle.region_rows_v2.specs.Region.{PlainFits, here-fits, inside-long, inside-region, inside-counts, share-none, share-key}
use Rattle.block_rows_v2.proofs.Plain.{runs_to, given-key, given-over, given_stays, given_inside}
use Rattle.block_rows_v2.proofs.run.Goals.{then-at-g, else-at-g, After-put_nth, In-Some, Joined-at-g}
use Rattle.block_rows_v2.proofs.run.Goals as goal

share-is : (j : Joined-at-g)
    → j.if-at-g.share ≡ may_share (eqb j.loop-n.p.at j.args.b.region.start) j.loop-n.p.key_len
share-is j = elim j.if-at-g.branch [ then-at-g b ↦ b.share-is ∙ share-none j.loop-n.p.at j.args.b.region.start j.loop-n.p.key_len b.if-at-g.true | else-at-g b ↦ b.share-is ∙ share-key j.loop-n.p.at j.args.b.region.start j.loop-n.p.key_len b.if-at-g.false ]

-- a plain row that was met
fits : (k : In-Some) → k.if-at-g.share ≡ may_share (eqb k.loop-n.p.at k.args.b.region.start) k.loop-n.p.key_len → PlainFits (length (take k.args.b.size k.args.block.now)) k.loop-n.p.at k.in-Some.row
fits k share =
    let l = k.loop-n in
    here-fits k.args.block.now k.args.b.size (region_from k.args.b.region) l.p l.key l.invariant.1 (plain_from k.in-Some.row) share k.in-Some.ensures k.in-Some.row refl

data_long : (k : In-Some) → length (take k.args.b.size k.args.block.now) ≡ k.args.b.size
data_long k =
    let l = k.loop-n in
    inside-long k.args.block.now k.args.b.size (region_from k.args.b.region) (view_in l.p l.key) l.invariant.1

-- it was given: its key, and its words
row_is_lem : (w : After-put_nth) → row_from w.row_of.result ≡ plain_read (take w.args.b.size w.args.block.now) w.loop-n.p.at (plain_from w.in-Some.row)
row_is_lem w = w.row_of.ensures

key-given : (w : After-put_nth) → w.if-at-g.share ≡ may_share (eqb w.loop-n.p.at w.args.b.region.start) w.loop-n.p.key_len → let l = w.loop-n in
    Wrote l.keys l.used (key_of (take w.args.b.size w.args.block.now) (take l.p.key_len l.key) (plain_read (take w.args.b.size w.args.block.now) l.p.at (plain_from w.in-Some.row)))
    (put_mid l.used (length l.keys - l.used) l.keys w.carry.new.out) (l.used + (w.in-Some.row.shared + w.in-Some.row.unshared))
key-given w share =
    let l = w.loop-n in
    given-key w.args.block.now w.args.b.size (region_from w.args.b.region) l.p l.key l.invariant.1 l.invariant.2 w.in-Some.row share w.in-Some.ensures l.keys l.used l.n l.invariant.3 w.if-keys-used.false w.carry.ensures (w.row_of.ensures) w.put_nth.ensures

pub loop-n-init : goal.loop-n-init
loop-n-init c =
    let t = c.requires.roomy in
    ((λ ks rs c₀ g. g), c.requires.inside, t.whole, t.inside, refl, refl, omega arith, t.few, (λ z. refl), t.words)

pub slice_bounds-plain_at-end : goal.slice_bounds-plain_at-end
slice_bounds-plain_at-end c =
    let l = c.loop-n in
    sym (inside-long c.args.block.now c.args.b.size (region_from c.args.b.region) (view_in l.p l.key) l.invariant.1)

pub returns-in_default : goal.returns-in_default
returns-in_default c =
    let l = c.loop-n in
    runs_to c.args.block.now c.args.most c.args.came c.args.key.now c.args.keys.now c.args.rows.now l.p l.used l.n l.key l.keys l.rows c.ran_to.ensures l.invariant.6 l.invariant.7 l.invariant.0 (l.invariant.2 ∙ sym c.requires.roomy.whole) l.invariant.8

pub overflow_add-whole : goal.overflow_add-whole
overflow_add-whole c =
    let f = fits (goal.at.overflow_add-whole c).In-Some (share-is (goal.at.overflow_add-whole c).Joined-at-g) in
    omega (arith, f.shared-small, f.unshared-small)

pub overflow_sub-keys : goal.overflow_sub-keys
overflow_sub-keys c = c.loop-n.invariant.3

pub shape_of-key-then-keys-used : goal.shape_of-key-then-keys-used
shape_of-key-then-keys-used c =
    c.loop-n.invariant.2 ∙ sym c.requires.roomy.whole

pub returns-then-keys-used : goal.returns-then-keys-used
returns-then-keys-used c =
    let l = c.loop-n in
    runs_to c.args.block.now c.args.most c.args.came c.args.key.now c.args.keys.now c.args.rows.now l.p l.used l.n l.key l.keys l.rows c.ran_to-then-keys-used.ensures l.invariant.6 l.invariant.7 l.invariant.0 (l.invariant.2 ∙ sym c.requires.roomy.whole) l.invariant.8

pub slice_bounds-carry-end-in-loop-n : goal.slice_bounds-carry-end-in-loop-n
slice_bounds-carry-end-in-loop-n c = sym (data_long (goal.at.slice_bounds-carry-end-in-loop-n c).In-Some)

pub carry-requires : goal.carry-requires
carry-requires c =
    let l = c.loop-n in
    (l.invariant.2, fits (goal.at.carry-requires c).In-Some (share-is (goal.at.carry-requires c).Joined-at-g), omega (arith, mid_len l.used (length l.keys) l.keys (omega arith), c.if-keys-used.false))

pub slice_bounds-row_of-end : goal.slice_bounds-row_of-end
slice_bounds-row_of-end c = sym (data_long (goal.at.slice_bounds-row_of-end c).In-Some)

pub row_of-requires : goal.row_of-requires
row_of-requires c = fits (goal.at.row_of-requires c).In-Some (share-is (goal.at.row_of-requires c).Joined-at-g)

pub put_nth-requires : goal.put_nth-requires
put_nth-requires c =
    let l = c.loop-n in
    omega (arith, l.invariant.9, c.loop-n-test.true)

pub overflow_add-n : goal.overflow_add-n
overflow_add-n c =
    let l = c.loop-n in
    omega (arith, c.loop-n-test.true, c.ranges.most.fits)

pub overflow_add-used : goal.overflow_add-used
overflow_add-used c =
    let l = c.loop-n in
    let long : length c.args.keys.now < 2 ^ 64 = search rules in
    let same : length l.keys ≡ length c.args.keys.now = l.invariant.4 in
    omega (arith, c.if-keys-used.false, l.invariant.3)

pub overflow_add-p : goal.overflow_add-p
overflow_add-p c =
    let l = c.loop-n in
    let long : length c.args.block.now < 2 ^ 64 = search rules in
    omega (arith, inside-region c.args.block.now c.args.b.size (region_from c.args.b.region) (view_in l.p l.key) l.invariant.1)

pub shape_of-key-then-g-row : goal.shape_of-key-then-g-row
shape_of-key-then-g-row c =
    c.carry.ensures.long ∙ c.loop-n.invariant.2 ∙ sym c.requires.roomy.whole

pub shape_of-keys-then-g-row : goal.shape_of-keys-then-g-row
shape_of-keys-then-g-row c =
    wrote-length (key-given (goal.at.shape_of-keys-then-g-row c).After-put_nth (share-is (goal.at.shape_of-keys-then-g-row c).Joined-at-g)) ∙ c.loop-n.invariant.4

pub shape_of-rows-then-g-row : goal.shape_of-rows-then-g-row
shape_of-rows-then-g-row c =
    wrote-length c.put_nth.ensures ∙ c.loop-n.invariant.5

pub returns-then-g-row : goal.returns-then-g-row
returns-then-g-row c =
    let l = c.loop-n in
    runs_to c.args.block.now c.args.most c.args.came c.args.key.now c.args.keys.now c.args.rows.now _ _ _ _ _ _ c.ran_to-then-g-row.ensures (omega (arith, l.invariant.6)) (omega (arith, c.loop-n-test.true))
    (λ ks rs c₀ g. given-over c.args.block.now c.args.b.size (region_from c.args.b.region) l.p l.key l.invariant.1 l.invariant.2 c.in-Some.row (share-is (goal.at.returns-then-g-row c).Joined-at-g) c.in-Some.ensures l.keys l.used l.n l.invariant.3 c.if-keys-used.false c.carry.ensures (row_is_lem (goal.at.returns-then-g-row c).After-put_nth) c.put_nth.ensures ks rs c₀ c.if-g-row.true (l.invariant.0 ks rs c₀ g))
    (c.carry.ensures.long ∙ l.invariant.2 ∙ sym c.requires.roomy.whole) (λ z. absurd (omega (arith, l.invariant.6)))

-- one row more is still a number
pub overflow_add-p-in-loop-n : goal.overflow_add-p-in-loop-n
overflow_add-p-in-loop-n c =
    let l = c.loop-n in
    let long : length c.args.block.now < 2 ^ 64 = search rules in
    let f = fits (goal.at.overflow_add-p-in-loop-n c).In-Some (share-is (goal.at.overflow_add-p-in-loop-n c).Joined-at-g) in
    omega (arith, inside-counts c.args.block.now c.args.b.size (region_from c.args.b.region) (view_in l.p l.key) l.invariant.1, f.ends, f.inside, data_long (goal.at.overflow_add-p-in-loop-n c).In-Some, (trailer_of-tells c.args.block.now _ l.invariant.1.read).0)

pub loop-n-smaller : goal.loop-n-smaller
loop-n-smaller c = omega (arith, c.loop-n-test.true)

pub loop-n-preserved : goal.loop-n-preserved
loop-n-preserved c =
    let l = c.loop-n in
    let rest = mid_len l.used (length l.keys) l.keys (omega arith) in (
      (λ ks rs c₀ g. given_stays c.args.block.now c.args.b.size (region_from c.args.b.region) l.p l.key l.invariant.1 l.invariant.2 c.in-Some.row (share-is (goal.at.loop-n-preserved c).Joined-at-g) c.in-Some.ensures l.keys l.used l.n l.invariant.3 c.if-keys-used.false c.carry.ensures (row_is_lem (goal.at.loop-n-preserved c).After-put_nth) c.put_nth.ensures c.if-g-row.false ks rs c₀ (l.invariant.0 ks rs c₀ g)),
      given_inside c.args.block.now c.args.b.size (region_from c.args.b.region) l.p l.key l.invariant.1 l.invariant.2 c.in-Some.row (share-is (goal.at.loop-n-preserved c).Joined-at-g) c.in-Some.ensures l.keys l.used l.n l.invariant.3 c.if-keys-used.false c.carry.ensures (row_is_lem (goal.at.loop-n-preserved c).After-put_nth) c.put_nth.ensures c.if-g-row.false,
      c.carry.ensures.long ∙ l.invariant.2,
      omega (arith, (key-given (goal.at.loop-n-preserved c).After-put_nth (share-is (goal.at.loop-n-preserved c).Joined-at-g)).room, wrote-length (key-given (goal.at.loop-n-preserved c).After-put_nth (share-is (goal.at.loop-n-preserved c).Joined-at-g))),
      wrote-length (key-given (goal.at.loop-n-preserved c).After-put_nth (share-is (goal.at.loop-n-preserved c).Joined-at-g)) ∙ l.invariant.4,
      wrote-length c.put_nth.ensures ∙ l.invariant.5,
      omega (arith, l.invariant.6),
      omega (arith, c.loop-n-test.true),
      (λ z. absurd (omega (arith, l.invariant.6))),
      omega (arith, wrote-length c.put_nth.ensures, l.invariant.9),
    )

pub returns : goal.returns
returns c =
    let l = c.loop-n in
    runs_to c.args.block.now c.args.most c.args.came c.args.key.now c.args.keys.now c.args.rows.now l.p l.used l.n l.key l.keys l.rows c.ran_to-2.ensures l.invariant.6 l.invariant.7 l.invariant.0 (l.invariant.2 ∙ sym c.requires.roomy.whole) l.invariant.8
