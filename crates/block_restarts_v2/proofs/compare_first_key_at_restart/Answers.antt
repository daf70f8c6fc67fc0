-- `compare_first_key_at_restart` keeps its promise: the region, its first key read alone from the rows, and the part where it lies compared with the target.
-- The trailer is the block's and the restart below the count, so the region is as the rules say. A key that was read lies inside the rows, and so does a plain one, which is the one that the rules read.
use mathlib.Core.Bool.{true}
use mathlib.Core.Path.{◌≡◌, sym, ◌∙◌}
use native.Mathlib.Omega.{arith}
use lib.Seq.{length-take-le}
use Rattle.layout.specs.Res.{ok}
use Rattle.layout.specs.Plain.{plain_key_is}
use Rattle.layout.specs.RowRead.{read_key}
use Rattle.layout.specs.Trailer.{data_of, region_of}
use Rattle.layout.proofs.Laws.Plain.{plain-key-is}
use Rattle.layout.proofs.Laws.Restart.{read_key-ends}
use Rattle.basics.specs.Answers.{handed-on}
use Rattle.keys.specs.Says.{says_ordering}
use Rattle.row_decode_v2.specs.Says.{key_from}
use Rattle.trailer.specs.Laws.{region-known}
use Rattle.trailer.specs.Says.{trailer_from, region_from}
use Rattle.block_restarts_v2.specs.Laws.{key-lies, compared-region, compared-no, compared_is}
use Rattle.block_restarts_v2.proofs.compare_first_key_at_restart.Goals.{In_ok-region, In_ok-key, In-Some}
use Rattle.block_restarts_v2.proofs.compare_first_key_at_restart.Goals as goal

region-read : (k : In_ok-region) → let a = k.args in region_of a.block.now (trailer_from a.t) a.restart_idx ≡ ok (region_from k.in_ok-region.region)
region-read k = region-known _ _ _ k.requires k.in_ok-region.ensures

plain-read : (k : In-Some) → let a = k.args in let g = k.in_ok-region.region in
    read_key (data_of a.block.now (trailer_from a.t)) g.start g.end 0 true ≡ ok (plain_key_is g.start k.in-Some.plain)
plain-read k = plain-key-is _ _ _ _ (sym k.in-Some.is ∙ k.plain_key_at.ensures)

key-read : (k : In_ok-key) → let a = k.args in let g = k.in_ok-region.region in
    read_key (data_of a.block.now (trailer_from a.t)) g.start g.end 0 true ≡ ok (key_from k.in_ok-key.key)
key-read k = sym k.in_ok-key.ensures

pub returns-in_err-region : goal.returns-in_err-region
returns-in_err-region c = handed-on says_ordering _ _ c.from_residual.ensures.1 (compared-region _ _ _ _ (region-known _ _ _ c.requires c.in_err-region.ensures))

pub slice_bounds-rows-end : goal.slice_bounds-rows-end
slice_bounds-rows-end c =
    sym (length-take-le _ _ (omega (arith, c.requires.0)))

pub overflow_add-start : goal.overflow_add-start
overflow_add-start c = omega (arith, key-lies _ _ _ _ _ c.requires.0 (plain-read (goal.at.overflow_add-start c).In-Some))

pub overflow_add-end : goal.overflow_add-end
overflow_add-end c = omega (arith, key-lies _ _ _ _ _ c.requires.0 (plain-read (goal.at.overflow_add-end c).In-Some))

pub slice_bounds-compare-end : goal.slice_bounds-compare-end
slice_bounds-compare-end c = (read_key-ends _ _ _ _ _ _ (plain-read (goal.at.slice_bounds-compare-end c).In-Some)).0

pub returns-in-Some : goal.returns-in-Some
returns-in-Some c = compared_is _ _ _ _ _ (region-read (goal.at.returns-in-Some c).In_ok-region) _ (plain-read (goal.at.returns-in-Some c).In-Some) c.compare.ensures

pub returns-in_err-key : goal.returns-in_err-key
returns-in_err-key c =
    handed-on says_ordering _ _ c.from_residual-in_err-key.ensures.1 (compared-no _ _ _ _ _ (region-read (goal.at.returns-in_err-key c).In_ok-region) (sym c.in_err-key.ensures))

pub overflow_add-to : goal.overflow_add-to
overflow_add-to c =
    omega (arith, c.requires, key-lies _ _ _ _ _ c.requires.0 (key-read (goal.at.overflow_add-to c).In_ok-key))

pub slice_bounds-compare-end-2 : goal.slice_bounds-compare-end-2
slice_bounds-compare-end-2 c = (read_key-ends _ _ _ _ _ _ (key-read (goal.at.slice_bounds-compare-end-2 c).In_ok-key)).0

pub returns : goal.returns
returns c =
    compared_is _ _ _ _ _ (region-read (goal.at.returns c).In_ok-region) _ (key-read (goal.at.returns c).In_ok-key) c.compare-2.ensures
