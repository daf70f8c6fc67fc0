-- The lent tally ends with every row of the block counted, or as it came where the block is refused. The loop's invariant is `Folding`: the rows still to come, counted upon the lent tally as
-- it stands, make the whole. In each turn `step` finds the next row, and `tally_row` counts it.
use mathlib.Core.Path.{◌≡◌}
use Prim.Native.Nat.{◌-◌}
use lib.ListN.{length}
use Rattle.layout.specs.Limits.{max_key}
use Rattle.basics.specs.Answers.{says_verdict}
use Rattle.place_v2.specs.Says.{view_in}
use Rattle.tally.specs.Says.{after_block}
use Rattle.tally.specs.Tally.{tally_block}
use Rattle.tally.proofs.Laws.{Folding}
use Rattle.tally.proofs.tally_block.Given as goal

abbrev pub invariant-loop : goal.invariant-loop
invariant-loop l =
    Folding (after_block l.initial.t (tally_block l.initial.t l.block)) (says_verdict l.opened.answer) l.block (l.end - l.counter) (view_in l.p l.carried) l.t
    × (length l.carried ≡ max_key) × (length l.key ≡ max_key)
