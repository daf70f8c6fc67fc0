-- `bounds_of` answers the trailer and the region that the definition does, or none where one of its tests is not passed.
-- Each exit is one law, over what was read on the way to it.
use Prim.Native.Nat.{◌+◌, ◌*◌, ◌<◌}
use mathlib.Core.Path.{◌≡◌, ap, sym, ◌∙◌}
use mathlib.Core.List.{[]}
use lib.ListN.{length}
use Rattle.layout.specs.Res.{ok}
use Rattle.layout.specs.Trailer.{trailer_of, region_of}
use Rattle.layout.specs.Cursor.{ascending, Cursor}
use Rattle.layout.proofs.Laws.Trailer.{trailer_of-tells}
use Rattle.basics.specs.Says.{says_order}
use Rattle.trailer.specs.Laws.{region-known}
use Rattle.trailer.specs.Says.{trailer_from, region_from}
use Rattle.place_v2.specs.Says.{view_in}
use Rattle.region_rows_v2.specs.Bounds.{none-down, none-marked, none-trailer, none-region, none-key, none-bounds, none_before, none_wrong, some_stretch}
use Rattle.region_rows_v2.proofs.bounds_of.Goals.{After-region_of, In-Ok-region_of, In-Ok, In-Ascending}
use Rattle.region_rows_v2.proofs.bounds_of.Goals as goal

heads : (e : In-Ascending) → says_order e.args.p.order ≡ ascending
heads e = ap says_order e.in-Ascending.is

abbrev cursor : (k : In-Ok) → Cursor
cursor k = view_in k.args.p []

trailer-read : (k : In-Ok) → trailer_of k.args.block.now ≡ ok (trailer_from k.in-Ok.t)
trailer-read k = sym k.in-Ok.ensures

has : (m : After-region_of) → let a = m.args in let t = m.in-Ok.t in (t.size + (2 + 2 * t.count) ≡ length a.block.now) × (a.p.region < t.count)
has m = ((trailer_of-tells _ _ (sym m.in-Ok.ensures)).0, m.if-t-p.false)

region-read : (n : In-Ok-region_of) → region_of n.args.block.now (trailer_from n.in-Ok.t) n.args.p.region ≡ ok (region_from n.in-Ok-region_of.region)
region-read n = region-known _ _ _ ((trailer_of-tells _ _ (sym n.in-Ok.ensures)).0, n.if-t-p.false) n.in-Ok-region_of.ensures

pub returns-in_default : goal.returns-in_default
returns-in_default c =
    none-down (view_in c.args.p []) c.args.block.now (ap says_order c.in_default.is)

pub returns-then-p : goal.returns-then-p
returns-then-p c =
    none-marked (view_in c.args.p []) c.args.block.now (heads (goal.at.returns-then-p c).In-Ascending) c.if-p.true

pub returns-in_default-trailer_of : goal.returns-in_default-trailer_of
returns-in_default-trailer_of c =
    none-trailer (view_in c.args.p []) c.args.block.now (heads (goal.at.returns-in_default-trailer_of c).In-Ascending) c.if-p.false (sym c.in_default-trailer_of.ensures)

pub returns-then-t-p : goal.returns-then-t-p
returns-then-t-p c =
    none-region (cursor (goal.at.returns-then-t-p c).In-Ok) c.args.block.now (heads (goal.at.returns-then-t-p c).In-Ascending) c.if-p.false _ (trailer-read (goal.at.returns-then-t-p c).In-Ok) c.if-t-p.true

pub returns-then-p-gt-MAX_KEY : goal.returns-then-p-gt-MAX_KEY
returns-then-p-gt-MAX_KEY c =
    none-key (cursor (goal.at.returns-then-p-gt-MAX_KEY c).In-Ok) c.args.block.now (heads (goal.at.returns-then-p-gt-MAX_KEY c).In-Ascending) c.if-p.false _ (trailer-read (goal.at.returns-then-p-gt-MAX_KEY c).In-Ok) c.if-t-p.false c.if-p-gt-MAX_KEY.true

pub returns-in_default-region_of : goal.returns-in_default-region_of
returns-in_default-region_of c =
    none-bounds (cursor (goal.at.returns-in_default-region_of c).In-Ok) c.args.block.now (heads (goal.at.returns-in_default-region_of c).In-Ascending) c.if-p.false _ (trailer-read (goal.at.returns-in_default-region_of c).In-Ok) c.if-t-p.false c.if-p-gt-MAX_KEY.false
    (region-known _ _ _ (has (goal.at.returns-in_default-region_of c).After-region_of) c.in_default-region_of.ensures)

pub returns-then-p-region : goal.returns-then-p-region
returns-then-p-region c =
    none_before (cursor (goal.at.returns-then-p-region c).In-Ok) c.args.block.now (heads (goal.at.returns-then-p-region c).In-Ascending) c.if-p.false _ (trailer-read (goal.at.returns-then-p-region c).In-Ok) c.if-t-p.false c.if-p-gt-MAX_KEY.false _ (region-read (goal.at.returns-then-p-region c).In-Ok-region_of) c.if-p-region.true

pub returns-then-wrong_after : goal.returns-then-wrong_after
returns-then-wrong_after c =
    none_wrong (cursor (goal.at.returns-then-wrong_after c).In-Ok) c.args.block.now (heads (goal.at.returns-then-wrong_after c).In-Ascending) c.if-p.false _ (trailer-read (goal.at.returns-then-wrong_after c).In-Ok) c.if-t-p.false c.if-p-gt-MAX_KEY.false _ (region-read (goal.at.returns-then-wrong_after c).In-Ok-region_of) c.if-p-region.false
    (sym c.wrong_after.ensures ∙ c.if-wrong_after.true)

pub returns : goal.returns
returns c =
    some_stretch (cursor (goal.at.returns c).In-Ok) c.args.block.now (heads (goal.at.returns c).In-Ascending) c.if-p.false _ (trailer-read (goal.at.returns c).In-Ok) c.if-t-p.false c.if-p-gt-MAX_KEY.false _ (region-read (goal.at.returns c).In-Ok-region_of) c.if-p-region.false
    (sym c.wrong_after.ensures ∙ c.if-wrong_after.false)
