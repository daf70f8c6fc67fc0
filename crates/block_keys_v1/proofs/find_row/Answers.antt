-- `find_row` keeps its promise for any trailer: what reading row 0's key refuses, or the search over all rows after that key.
-- A key that was read tells that the trailer is the block's and that the key lies inside the rows.
use Prim.Native.Nat.{◌+◌, ◌*◌, ◌<◌}
use mathlib.Core.Path.{◌≡◌, sym, ◌∙◌}
use native.Mathlib.Omega.{arith}
use lib.ListN.{length}
use lib.Seq.{length-take-le}
use Rattle.layout.specs.Res.{ok}
use Rattle.basics.specs.Answers.{handed-on}
use Rattle.row_decode_v2.specs.Says.{key_from}
use Rattle.trailer.specs.Laws.{handed-known, handed-tells}
use Rattle.trailer.specs.Says.{trailer_from}
use Rattle.block_keys_v1.specs.Handed.{first_place}
use Rattle.block_keys_v1.specs.Says.{found_from}
use Rattle.block_keys_v1.specs.Laws.{first_part, first-lies, found-not, found-by}
use Rattle.block_keys_v1.proofs.find_row.Goals.{In_ok-key}
use Rattle.block_keys_v1.proofs.find_row.Goals as goal

told : (m : In_ok-key) → let a = m.args in
    (a.t.size + (2 + 2 * a.t.count) ≡ length a.block.now) × (0 < a.t.count) × (first_place a.block.now (trailer_from a.t) ≡ ok (key_from m.in_ok-key.key))
told m = handed-tells _ _ _ _ _ (sym m.in_ok-key.ensures)

pub returns-in_err-key : goal.returns-in_err-key
returns-in_err-key c = handed-on found_from _ _ c.from_residual.ensures.1 (found-not _ _ _ _ (sym c.in_err-key.ensures))

pub slice_bounds-rows-end : goal.slice_bounds-rows-end
slice_bounds-rows-end c = sym (length-take-le _ _ (omega (arith, (told (goal.at.slice_bounds-rows-end c).In_ok-key).0)))

pub overflow_add-to : goal.overflow_add-to
overflow_add-to c =
    let a = c.args in
    omega (arith, first-lies _ _ _ (told (goal.at.overflow_add-to c).In_ok-key).2, length-take-le a.t.size a.block.now (omega (arith, (told (goal.at.overflow_add-to c).In_ok-key).0)), (told (goal.at.overflow_add-to c).In_ok-key).0)

pub slice_bounds-first-end : goal.slice_bounds-first-end
slice_bounds-first-end c = first-lies _ _ _ (told (goal.at.slice_bounds-first-end c).In_ok-key).2

pub search_rows-requires : goal.search_rows-requires
search_rows-requires c = record { count_value = ((told (goal.at.search_rows-requires c).In_ok-key).0, omega arith); low_bound = omega arith; stands = c.held_against-whole.ensures }

pub returns : goal.returns
returns c =
    found-by _ _ _ _ _ (first_part _ _ _ (told (goal.at.returns c).In_ok-key).2) c.search_rows.ensures ∙ sym (handed-known _ _ _ _ ((told (goal.at.returns c).In_ok-key).0, (told (goal.at.returns c).In_ok-key).1))
