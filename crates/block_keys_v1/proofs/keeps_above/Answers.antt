-- `keeps_above` keeps its promise: the row's bounds, its key read alone, then the part that it shares with the first key, or its suffix and what is left of the target.
-- The trailer is the block's and the row below the count, so its bounds are as the rules say. A key that was read lies inside the rows; a share that is no longer than what
-- the first key and the target have in common is no longer than the target.
use Prim.Native.Nat.{◌≤◌}
use mathlib.Core.Path.{◌≡◌, sym}
use native.Mathlib.Omega.{arith}
use lib.ListN.{length}
use lib.Seq.{length-take-le}
use Rattle.layout.specs.Res.{ok}
use Rattle.layout.specs.Trailer.{data_of, region_of}
use Rattle.layout.proofs.Laws.Key.{common-right}
use Rattle.layout_v1.specs.RowRead.{read_key}
use Rattle.layout_v1.proofs.Laws.Cursor.{read_key-lies}
use Rattle.basics.specs.Answers.{handed-on}
use Rattle.row_decode_v2.specs.Says.{key_from}
use Rattle.trailer.specs.Laws.{region-known}
use Rattle.trailer.specs.Says.{trailer_from, region_from}
use Rattle.block_keys_v1.specs.Laws.{kept-region, kept-no, kept-past, kept_on}
use Rattle.block_keys_v1.proofs.keeps_above.Goals.{In_ok-region, Else-whole-shared, In_ok-key}
use Rattle.block_keys_v1.proofs.keeps_above.Goals as goal

region-read : (k : In_ok-region) → let a = k.args in region_of a.block.now (trailer_from a.t) a.index ≡ ok (region_from k.in_ok-region.region)
region-read k = region-known _ _ _ k.requires.count_value k.in_ok-region.ensures

key-read : (m : In_ok-key) → let a = m.args in let g = m.in_ok-region.region in
    read_key (data_of a.block.now (trailer_from a.t)) g.start g.end m.may_share-most.result ≡ ok (key_from m.in_ok-key.key)
key-read m = sym m.in_ok-key.ensures

pub returns-in_err-region : goal.returns-in_err-region
returns-in_err-region c =
    handed-on (λ b. b) _ _ c.from_residual.ensures.1 (kept-region _ _ _ _ _ _ _ c.requires.stands (region-known _ _ _ c.requires.count_value c.in_err-region.ensures))

pub slice_bounds-rows-end : goal.slice_bounds-rows-end
slice_bounds-rows-end c = sym (length-take-le _ _ (omega (arith, c.requires.count_value.0)))

pub returns-in_err-key : goal.returns-in_err-key
returns-in_err-key c =
    handed-on (λ b. b) _ _ c.from_residual-in_err-key.ensures.1
    (kept-no _ _ _ _ _ _ _ c.requires.stands _ (region-read (goal.at.returns-in_err-key c).In_ok-region) c.may_share-most.ensures (sym c.in_err-key.ensures))

pub returns-then-whole-shared : goal.returns-then-whole-shared
returns-then-whole-shared c =
    kept-past _ _ _ _ _ _ _ c.requires.stands _ (region-read (goal.at.returns-then-whole-shared c).In_ok-region) c.may_share-most.ensures _ (key-read (goal.at.returns-then-whole-shared c).In_ok-key) c.if-whole-shared.true

pub overflow_add-to : goal.overflow_add-to
overflow_add-to c =
    omega (arith, (read_key-lies _ _ _ _ _ (key-read (goal.at.overflow_add-to c).In_ok-key)).inside, length-take-le c.args.t.size c.args.block.now (omega (arith, c.requires.count_value.0)), c.requires.count_value.0)

pub slice_bounds-held_against-end : goal.slice_bounds-held_against-end
slice_bounds-held_against-end c = (read_key-lies _ _ _ _ _ (key-read (goal.at.slice_bounds-held_against-end c).In_ok-key)).inside

share-short : (e : Else-whole-shared) → let a = e.args in e.in_ok-key.key.shared ≤ length a.target.now
share-short e = omega (arith, e.if-whole-shared.false, e.requires.stands.shares, common-right e.args.first.now e.args.target.now)

pub slice_bounds-held_against-count-2 : goal.slice_bounds-held_against-count-2
slice_bounds-held_against-count-2 c = share-short (goal.at.slice_bounds-held_against-count-2 c).Else-whole-shared

pub slice_bounds-held_against-start-2 : goal.slice_bounds-held_against-start-2
slice_bounds-held_against-start-2 c = share-short (goal.at.slice_bounds-held_against-start-2 c).Else-whole-shared

pub returns : goal.returns
returns c =
    kept_on _ _ _ _ _ _ _ c.requires.stands _ (region-read (goal.at.returns c).In_ok-region) c.may_share-most.ensures _ (key-read (goal.at.returns c).In_ok-key) c.if-whole-shared.false _ c.held_against-rest.ensures
