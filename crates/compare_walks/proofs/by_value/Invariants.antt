-- The walk by value keeps the promise of the private walks: what is left of it, from the cursor at hand, makes the whole.
-- Each exit is one law of the loop, from the step that `next` promised.
use Rattle.std.proofs.Common.{◌≡◌, length}
use Rattle.layout.specs.Res.{bind}
use Rattle.layout.specs.Limits.{max_key}
use Rattle.block_iterator_v2.specs.Says.{view_of}
use Rattle.compare_walks.specs.Walk.{walk, wrapped}
use Rattle.compare_walks.specs.Loop.{Walking}
use Rattle.compare_walks.proofs.by_value.Given as goal

abbrev pub invariant-loop-rows : goal.invariant-loop-rows
invariant-loop-rows l = Walking (bind (walk l.limit (view_of l.initial.c) l.block) wrapped) l.block l.limit (view_of l.c) l.rows l.sum × (length l.key ≡ max_key) × (length l.c.key ≡ max_key)
