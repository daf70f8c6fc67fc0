-- `put_length` writes a varint: the length fits 32 bits, as required, so the cast keeps it, and there is room for it.
use Rattle.buf_mut.proofs.Laws.{put_one}
use Rattle.build_in_place_v2.proofs.put_length.Goals as goal

pub returns : goal.returns
returns c = put_one c.requires.1 c.encode_varint.ensures c.place_after.ensures
