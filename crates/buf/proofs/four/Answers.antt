-- `four` answers the number that was read, or 0: its case is known, and the definition computes at it.
use Rattle.buf.proofs.Laws.{bytes-known}
use Rattle.buf.proofs.four.Goals as goal

pub returns-in_default : goal.returns-in_default
returns-in_default c = bytes-known 4 _ _ c.get_u32.ensures c.in_default.is

pub returns : goal.returns
returns c = bytes-known 4 _ _ c.get_u32.ensures c.in-Ok.is
