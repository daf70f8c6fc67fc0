-- `is_over` keeps its promise: a cursor that goes on in a region, and stands at the end that it may reach there, has no row left.
use Rattle.layout.specs.Limits.{max_key}
use Rattle.trailer.specs.Says.{region_from}
use Rattle.region_rows_v2.specs.Region.{bounds-inside, ends-here}
use Rattle.compare_walks.proofs.is_over.Goals as goal

pub returns : goal.returns
returns c =
    let b = c.in-Some.b in
    λ e key. ends-here c.args.block.now b.size (region_from b.region) c.args.p key (bounds-inside c.args.p key c.args.block.now c.in-Some.ensures) e max_key
