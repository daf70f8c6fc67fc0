-- `write_lengths` writes three varints, one after another.
-- Each length fits 32 bits, as required, so the casts keep it. There is room for all, so each writer wrote, and three writes are one (`put_three`).
use Rattle.buf_mut.proofs.Laws.{put_three}
use Rattle.row_encode_v2.proofs.write_lengths.Goals as goal

pub returns : goal.returns
returns c =
    put_three c.requires.value_len_in_bounds c.encode_varint.ensures c.place_after-a.ensures c.encode_varint-2.ensures c.place_after-b.ensures c.encode_varint-3.ensures c.place_after.ensures
