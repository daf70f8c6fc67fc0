-- `run_here` keeps its promise: where the cursor goes on in a region, its plain rows are gone over; else nothing is.
use Rattle.region_rows_v2.specs.Region.{bounds-inside}
use Rattle.compare_walks.proofs.run_here.Goals as goal

pub run-requires-clause-inside : goal.run-requires-clause-inside
run-requires-clause-inside c = bounds-inside c.args.came.place _ c.args.block.now c.in-Some.ensures
