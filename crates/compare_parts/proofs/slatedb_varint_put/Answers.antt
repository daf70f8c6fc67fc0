-- A varint written keeps its promise: what `encode_varint` promised at the start of the buffer, and the place after it as the count.
-- Each exit is one law.
use Rattle.compare_parts.proofs.Laws.{writes-good, writes-refused}
use Rattle.compare_parts.proofs.slatedb_varint_put.Goals as goal

pub returns-in-Err : goal.returns-in-Err
returns-in-Err c =
    writes-refused _ _ _ _ _ c.encode_varint.ensures c.in-Err.is c.from.ensures

pub returns-in-Ok : goal.returns-in-Ok
returns-in-Ok c =
    writes-good _ _ _ _ _ c.encode_varint.ensures c.in-Ok.is
