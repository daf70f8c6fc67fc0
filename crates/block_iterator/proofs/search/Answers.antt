-- `search` answers what the definition's seek does: 14, or what the search over all rows refuses; else the rows that its place leaves passed.
-- The trailer was read from the block, so what was found is the rules' own; its place is no more than the count.
use mathlib.Core.Path.{sym}
use Rattle.layout_v1.proofs.Laws.Cursor.{seek-trailer}
use Rattle.basics.specs.Answers.{handed-on}
use Rattle.basics.specs.Says.{says_order}
use Rattle.block_keys_v1.specs.Laws.{seek-no, seek_found, found_inside}
use Rattle.block_iterator.specs.Parts.{sought_from}
use Rattle.block_iterator.proofs.search.Goals as goal

pub returns-in_err-t : goal.returns-in_err-t
returns-in_err-t c = handed-on (sought_from (says_order c.args.order)) _ _ c.from_residual.ensures.1 (sym (seek-trailer _ _ _ (sym c.in_err-t.ensures)))

pub returns-in_err-found : goal.returns-in_err-found
returns-in_err-found c =
    handed-on (sought_from (says_order c.args.order)) _ _ c.from_residual-in_err-found.ensures.1 (sym (seek-no _ _ _ _ (sym c.in_ok-t.ensures) (sym c.in_err-found.ensures)))

pub passed_by-requires : goal.passed_by-requires
passed_by-requires c = found_inside _ _ _ _ (sym c.in_ok-t.ensures) _ (sym c.in_ok-found.ensures)

pub returns : goal.returns
returns c =
    rw c.passed_by.ensures (sym (seek_found _ _ _ _ (sym c.in_ok-t.ensures) _ (sym c.in_ok-found.ensures)))
