-- `opened` keeps its promise: 14, then all of 15; else the order asked, and descending the rows of the last region.
-- Each exit is a law of the opening, over what was read on the way to it.
use mathlib.Core.Path.{◌≡◌, sym, ◌∙◌}
use native.Mathlib.Omega.{arith}
use Rattle.layout.specs.Res.{ok}
use Rattle.layout.specs.Trailer.{trailer_of}
use Rattle.layout.specs.Cursor.{open_block, open_along}
use Rattle.basics.specs.Says.{says_order}
use Rattle.layout.proofs.Laws.Trailer.{trailer_of-tells}
use Rattle.layout.proofs.Laws.Cursor.{open_trailer, open_offsets, open_along_lem}
use Rattle.basics.specs.Answers.{handed-on}
use Rattle.trailer.specs.Says.{trailer_from}
use Rattle.trailer.specs.Laws.{offsets-used}
use Rattle.place_v2.specs.declared.Place.{Place}
use Rattle.place_v2.specs.Says.{view_in}
use Rattle.place_v2.proofs.Opens.{opened_up, opened_down, opened_not}
use Rattle.place_v2.proofs.opened.Goals.{In_ok-t, In_ok-all_offsets}
use Rattle.place_v2.proofs.opened.Goals as goal

trailer-read : (k : In_ok-t) → trailer_of k.args.block.now ≡ ok (trailer_from k.in_ok-t.t)
trailer-read k = sym k.in_ok-t.ensures

-- all of 15 is tested, so what is left goes along the order
along : (k : In_ok-all_offsets) → let a = k.args in open_block a.block.now (says_order a.order) ≡ open_along (says_order a.order) a.block.now (trailer_from k.in_ok-t.t)
along k = open_along_lem _ _ _ (sym k.in_ok-t.ensures) (sym (offsets-used _ _ (sym k.in_ok-t.ensures)) ∙ sym k.in_ok-all_offsets.ensures)

pub returns-in_err-t : goal.returns-in_err-t
returns-in_err-t c = λ key. handed-on (λ (p : Place). view_in p key) _ _ c.from_residual.ensures.1 (sym (open_trailer _ _ (sym c.in_err-t.ensures)))

pub returns-in_err-all_offsets : goal.returns-in_err-all_offsets
returns-in_err-all_offsets c =
    let read = trailer-read (goal.at.returns-in_err-all_offsets c).In_ok-t in
    λ key. handed-on (λ (p : Place). view_in p key) _ _ c.from_residual-in_err-all_offsets.ensures.1 (sym (open_offsets _ _ _ read (sym (offsets-used _ _ read) ∙ sym c.in_err-all_offsets.ensures)))

pub returns-in-Ascending : goal.returns-in-Ascending
returns-in-Ascending c = opened_up _ _ _ (along (goal.at.returns-in-Ascending c).In_ok-all_offsets) c.in-Ascending.is c.fresh.ensures

pub last_rows-requires : goal.last_rows-requires
last_rows-requires c = trailer-read (goal.at.last_rows-requires c).In_ok-t

pub returns-in_err-number-in-Descending : goal.returns-in_err-number-in-Descending
returns-in_err-number-in-Descending c =
    λ key. handed-on (λ (p : Place). view_in p key) _ _ c.from_residual-in_err-number-in-Descending.ensures.1
    (opened_not _ _ _ (along (goal.at.returns-in_err-number-in-Descending c).In_ok-all_offsets) c.in-Descending.is (sym c.in_err-number-in-Descending.ensures))

pub overflow_sub-t : goal.overflow_sub-t
overflow_sub-t c = omega (arith, (trailer_of-tells _ _ (trailer-read (goal.at.overflow_sub-t c).In_ok-t)).1)

pub returns-in_ok-number-in-Descending : goal.returns-in_ok-number-in-Descending
returns-in_ok-number-in-Descending c =
    opened_down _ _ _ (along (goal.at.returns-in_ok-number-in-Descending c).In_ok-all_offsets) c.in-Descending.is (sym c.in_ok-number-in-Descending.ensures) c.fresh-in-Descending.ensures
