-- `encode_varint` keeps its promise: the bytes of the varint, or 6 and an untouched buffer.
-- A number below 128 is one byte, itself; any other is left to `put_varint`, whose promise is the same.
use Rattle.layout.proofs.Laws.Byte.{varint-small}
use Rattle.utils.proofs.encode_varint.Goals as goal

pub returns-then-v-lt128 : goal.returns-then-v-lt128
returns-then-v-lt128 c = rw (varint-small _ c.if-v-lt128.true) c.put_byte.ensures
