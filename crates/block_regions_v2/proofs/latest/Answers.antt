-- `latest` keeps its promise: the test is the definition's.
use borrow.Author.Tests.{lt-ltb, le-ltb}
use Rattle.block_regions_v2.proofs.latest.Goals as goal

pub returns-then-matched-shared : goal.returns-then-matched-shared
returns-then-matched-shared c = rw (lt-ltb c.args.matched c.args.shared c.if-matched-shared.true)

pub returns-else-matched-shared : goal.returns-else-matched-shared
returns-else-matched-shared c = rw (le-ltb c.args.matched c.args.shared c.if-matched-shared.false)
