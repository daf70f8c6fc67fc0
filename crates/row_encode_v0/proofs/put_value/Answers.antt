-- `put_value` writes the value's length, which fits four bytes as required, and then the value. There is room for both, so each writer wrote, and the two writes are one.
use Rattle.buf_mut.proofs.Laws.{put_two}
use Rattle.row_encode_v0.proofs.put_value.Goals as goal

pub returns : goal.returns
returns c =
    put_two c.requires.1 c.put_u32.ensures c.place_after-a.ensures c.copy_in.ensures c.place_after.ensures
