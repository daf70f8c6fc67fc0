-- `seek` keeps its promise: what `search` answers, with the cursor as it came beside a refusal.
use mathlib.Core.Path.{refl, sym}
use Rattle.block_iterator.proofs.Laws.{seeks-not, seeks-landed}
use Rattle.block_iterator.proofs.BlockIterator.seek.Goals as goal

pub returns-in-Ok : goal.returns-in-Ok
returns-in-Ok c = seeks-landed _ _ (sym c.in-Ok.ensures) refl

pub returns-in-Err : goal.returns-in-Err
returns-in-Err c = seeks-not _ _ (sym c.in-Err.ensures)
