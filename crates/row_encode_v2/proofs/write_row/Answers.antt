-- `write_row` writes the row's three parts, its lengths, its body and its marks, one after another at the start of the buffer.
-- Room for the row is room for each part in its turn, by the laws of `Parts`, and the three writes are one. Of the value it takes the bytes that are kept, as many as the lengths say.
use mathlib.Core.Path.{sym}
use native.Mathlib.Omega.{arith}
use lib.Seq.{length-take-le}
use Rattle.layout.proofs.Laws.Splice.{wrote_then, wrote_as}
use Rattle.buf_mut.proofs.Laws.{put_one}
use Rattle.row_encode_v2.proofs.Parts.{row-parts, lengths-room, body-room, marks-room}
use Rattle.row_encode_v2.proofs.write_row.Goals as goal

pub write_lengths-a-requires : goal.write_lengths-a-requires
write_lengths-a-requires c =
    let a = c.args in
    let is = c.kept_len-kept.ensures.0 in
    record { shared_bound = (c.requires.shared_bound.0, c.requires.shared_bound.1, omega (arith, is, c.requires.shared_bound.2)); value_len_in_bounds = lengths-room a.shared a.key_suffix.now a.value.now a.row is c.requires.value_in_bounds }

pub slice_bounds-write_body-end : goal.slice_bounds-write_body-end
slice_bounds-write_body-end c = sym (length-take-le _ _ (omega arith))

pub write_body-b-requires : goal.write_body-b-requires
write_body-b-requires c =
    let a = c.args in
    body-room a.shared a.key_suffix.now a.value.now a.row c.kept_len-kept.ensures.0 c.requires.value_in_bounds c.write_lengths-a.ensures

pub returns : goal.returns
returns c =
    let a = c.args in
    let is = c.kept_len-kept.ensures.0 in
    wrote_as (sym (row-parts a.shared a.key_suffix.now a.value.now a.row is))
    (wrote_then c.write_lengths-a.ensures (wrote_then c.write_body-b.ensures
    (put_one (marks-room a.shared a.key_suffix.now a.value.now a.row is c.requires.value_in_bounds c.write_lengths-a.ensures c.write_body-b.ensures) c.write_marks.ensures c.place_after.ensures)))
