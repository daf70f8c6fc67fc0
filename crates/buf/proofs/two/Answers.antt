-- `two` answers the number that was read, or 0: its case is known, and the definition computes at it.
use Rattle.buf.proofs.Laws.{bytes-known}
use Rattle.buf.proofs.two.Goals as goal

pub returns-in_default : goal.returns-in_default
returns-in_default c = bytes-known 2 _ _ c.get_u16.ensures c.in_default.is

pub returns : goal.returns
returns c = bytes-known 2 _ _ c.get_u16.ensures c.in-Ok.is
