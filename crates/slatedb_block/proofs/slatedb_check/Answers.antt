-- `slatedb_check` keeps its promise: its answer is the definition's, and the count is set for good blocks only.
-- No words are lent to it that could mean nothing, so what `check` promised is all that is needed: one law for its rows, one for its refusal, whose arm doesn't touch the count.
use Rattle.basics.specs.Answers.{yes, says_same}
use Rattle.slatedb_block.proofs.Laws.{tells-good, tells-refused}
use Rattle.slatedb_block.proofs.slatedb_check.Goals as goal

pub returns-in-Ok : goal.returns-in-Ok
returns-in-Ok c = tells-good (yes says_same c.check.ensures c.in-Ok.is)

pub returns-in-Err : goal.returns-in-Err
returns-in-Err c = tells-refused (yes says_same c.check.ensures c.in-Err.is) c.from.ensures
