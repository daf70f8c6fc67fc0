-- `write_body` writes the suffix, the value and the sequence number, one after another. There is room for all, so each writer wrote, and three writes
-- are one.
use Rattle.buf_mut.proofs.Laws.{put_three}
use Rattle.row_encode_v2.proofs.write_body.Goals as goal

pub returns : goal.returns
returns c =
    put_three c.requires c.copy_in.ensures c.place_after-a.ensures c.copy_in-2.ensures c.place_after-b.ensures c.put_u64.ensures c.place_after.ensures
