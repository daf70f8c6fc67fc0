-- `add` keeps its promise: its array has as many bytes as the longest key, and `add_in_place` works on them where they lie. The numbers that it answers, a refused row's too, go into
-- the builder given back.
use mathlib.Core.Path.{◌≡◌}
use lib.ListN.{length}
use Rattle.layout.specs.Limits.{max_key}
use borrow.Author.Rules.{rules}
use Rattle.block_v1.proofs.Writes.{adds}
use Rattle.block_v1.proofs.BlockBuilderV1.add.Goals.{Start}
use Rattle.block_v1.proofs.BlockBuilderV1.add.Goals as goal

long : (c : Start) → length c.args.self.first_key ≡ max_key
long c = search rules

pub returns : goal.returns
returns c = adds _ _ _ _ _ (long (goal.at.returns c).Start) c.add_in_array-grown.ensures
