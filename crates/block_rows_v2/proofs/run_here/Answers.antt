-- `run_here` keeps its promise: where the cursor goes on in a region, its plain rows are given; at the end of the last one no row is left; else nothing is done.
use mathlib.Core.Path.{refl}
use native.Mathlib.Omega.{arith}
use Rattle.layout.proofs.Laws.Res.{clash}
use Rattle.trailer.specs.Says.{region_from}
use Rattle.region_rows_v2.specs.Region.{bounds-inside, ends-here}
use Rattle.block_rows_v2.proofs.run_here.Goals as goal

pub returns-in_default : goal.returns-in_default
returns-in_default c =
    record { more = omega arith; few = c.requires.roomy.few; on = λ ks rs c₀ g. g; long = refl; kept = λ z. refl; still = λ t. refl; ends = λ t room. absurd (clash t c.requires.ended_value) }

pub returns-then-g-place : goal.returns-then-g-place
returns-then-g-place c =
    let b = c.in-Some.b in
    record {
      more = omega arith;
      few = c.requires.roomy.few;
      on = λ ks rs c₀ g. g;
      long = refl;
      kept = λ z. refl;
      still = λ t. refl;
      ends = λ t room. ends-here c.args.block.now b.size (region_from b.region) c.args.came.place c.args.key.now (bounds-inside c.args.came.place c.args.key.now c.args.block.now c.in-Some.ensures) c.if-g-place.true room;
    }

pub run-requires : goal.run-requires
run-requires c =
    record { roomy = c.requires.roomy; inside = bounds-inside c.args.came.place _ c.args.block.now c.in-Some.ensures }
