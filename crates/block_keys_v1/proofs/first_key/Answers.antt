-- `first_key` keeps its promise for any trailer: 18 where its numbers are not this block's, else 15 for the offset of row 0 and the next, else the key read alone.
-- A region that was answered tells that the trailer is the block's.
use Prim.Native.Nat.{◌+◌, ◌*◌, ◌<◌}
use mathlib.Core.Path.{◌≡◌, sym, ◌∙◌}
use native.Mathlib.Omega.{arith}
use lib.ListN.{length}
use lib.Seq.{length-take-le}
use Rattle.layout.specs.Res.{ok}
use Rattle.layout.specs.Trailer.{region_of}
use Rattle.basics.specs.Answers.{handed-on}
use Rattle.row_decode_v2.specs.Says.{key_from}
use Rattle.trailer.specs.Laws.{handed-known, handed-tells}
use Rattle.trailer.specs.Says.{trailer_from, region_from}
use Rattle.block_keys_v1.specs.Laws.{place_not, place_read}
use Rattle.block_keys_v1.proofs.first_key.Goals.{In_ok-region}
use Rattle.block_keys_v1.proofs.first_key.Goals as goal

told : (k : In_ok-region) → let a = k.args in
    (a.t.size + (2 + 2 * a.t.count) ≡ length a.block.now) × (0 < a.t.count) × (region_of a.block.now (trailer_from a.t) 0 ≡ ok (region_from k.in_ok-region.region))
told k = handed-tells _ _ _ _ _ (sym k.in_ok-region.ensures)

pub returns-in_err-region : goal.returns-in_err-region
returns-in_err-region c = handed-on key_from _ _ c.from_residual.ensures.1 (place_not _ _ (sym c.in_err-region.ensures))

pub slice_bounds-decode_key_only-end : goal.slice_bounds-decode_key_only-end
slice_bounds-decode_key_only-end c = sym (length-take-le _ _ (omega (arith, (told (goal.at.slice_bounds-decode_key_only-end c).In_ok-region).0)))

pub returns : goal.returns
returns c =
    let w = told (goal.at.returns c).In_ok-region in
    place_read _ _ _ w.2 c.decode_key_only.ensures ∙ sym (handed-known _ _ _ _ (w.0, w.1))
