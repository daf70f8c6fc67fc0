-- `give_row` keeps the promise of the step to the row that comes next: what `load_at` answers is what the definition does, and a row's key is given.
-- The row was read, so there is room for its key; each arm turns the answer into the step that is wanted.
use mathlib.Core.Path.{ap, sym, ◌∙◌}
use native.Mathlib.Omega.{arith}
use lib.Seq.{length-take-le}
use Rattle.layout.proofs.Laws.Trailer.{trailer_of-tells}
use Rattle.layout_v1.specs.Cursor.{step_to}
use Rattle.basics.specs.Says.{says_order}
use Rattle.block_iterator.specs.Says.{view_of}
use Rattle.block_iterator.proofs.Laws.{steps-not, steps-found, loaded-row, loaded-fits, loaded-not, number-inside}
use Rattle.block_iterator.proofs.give_row.Goals as goal

pub load_at-requires : goal.load_at-requires
load_at-requires c =
    (c.requires.0, number-inside (says_order c.args.c.order) _ _ c.requires.1 c.number_of-number.ensures)

pub slice_bounds-give_key-end : goal.slice_bounds-give_key-end
slice_bounds-give_key-end c = sym (length-take-le _ _ (omega (arith, (trailer_of-tells _ _ c.requires.0).0)))

pub give_key-requires : goal.give_key-requires
give_key-requires c =
    loaded-fits _ _ _ _ c.load_at.ensures c.in-Ok.is

pub returns-in-Ok : goal.returns-in-Ok
returns-in-Ok c =
    steps-found _ c.args.c _
    (ap (step_to (view_of c.args.c) _ _ _) (sym c.number_of-number.ensures) ∙ loaded-row _ _ _ _ c.load_at.ensures (view_of c.args.c) c.in-Ok.is)
    c.give_key.ensures

pub returns-in-Err : goal.returns-in-Err
returns-in-Err c =
    steps-not _ c.args.c _
    (ap (step_to (view_of c.args.c) _ _ _) (sym c.number_of-number.ensures) ∙ loaded-not _ _ _ _ c.load_at.ensures (view_of c.args.c) c.in-Err.is)
    c.refused.ensures
