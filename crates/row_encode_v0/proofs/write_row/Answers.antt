-- `write_row` writes the row's three parts one after another at the start of the buffer: what stands before the flags, flags and times, and the value.
-- Room for the row is room for each part in its turn, by the laws of `Parts`, and the three writes are one.
use mathlib.Core.Path.{sym}
use Rattle.layout.proofs.Laws.Splice.{wrote_then, wrote_as}
use Rattle.buf_mut.proofs.Laws.{put_one}
use Rattle.row_encode_v0.proofs.Parts.{row-parts, key-room, marks-room, value_room}
use Rattle.row_encode_v0.proofs.write_row.Goals as goal

pub write_key-a-requires : goal.write_key-a-requires
write_key-a-requires c =
    let a = c.args in
    record { shared_bound = (c.requires.shared_bound.0, c.requires.shared_bound.1); seq_in_bounds = key-room a.shared a.key_suffix.now a.value.now a.row c.requires.value_in_bounds }

pub write_value-requires : goal.write_value-requires
write_value-requires c =
    let a = c.args in
    let first = c.write_key-a.ensures in record {
      value_bound = c.requires.shared_bound.2;
      value_in_bounds = value_room a.shared a.key_suffix.now a.value.now a.row c.requires.value_in_bounds first
          (put_one (marks-room a.shared a.key_suffix.now a.value.now a.row c.requires.value_in_bounds first) c.write_marks.ensures c.place_after-b.ensures);
    }

pub returns : goal.returns
returns c =
    let a = c.args in
    let first = c.write_key-a.ensures in
    wrote_as (sym (row-parts a.shared a.key_suffix.now a.value.now a.row))
    (wrote_then first
    (wrote_then (put_one (marks-room a.shared a.key_suffix.now a.value.now a.row c.requires.value_in_bounds first) c.write_marks.ensures c.place_after-b.ensures) c.write_value.ensures))
