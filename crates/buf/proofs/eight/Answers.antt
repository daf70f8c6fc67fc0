-- `eight` answers the number that was read, or 0: its case is known, and the definition computes at it.
use Rattle.std.proofs.Common.{ap, sym}
use Rattle.basics.specs.Answers.{yes, says_num}
use Rattle.buf.specs.Promise.{or_zero}
use Rattle.buf.proofs.eight.Goals as goal

pub returns-in-Err : goal.returns-in-Err
returns-in-Err c = sym (ap or_zero (yes says_num c.get_u64.ensures c.in-Err.is))

pub returns-in-Ok : goal.returns-in-Ok
returns-in-Ok c = sym (ap or_zero (yes says_num c.get_u64.ensures c.in-Ok.is))
