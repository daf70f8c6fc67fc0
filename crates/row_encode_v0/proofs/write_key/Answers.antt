-- `write_key` writes the share, the suffix's length, the suffix and the sequence number, one after another at the start. Both lengths fit two bytes, as required. There is room for
-- all, so each writer wrote, and the four writes are one.
use mathlib.Core.List.{List, ◌++◌}
use Prim.Native.Nat.{ℕ}
use lib.ListN.{length}
use Rattle.layout.specs.Fixed.{big}
use Rattle.layout.proofs.Laws.Splice.{wrote_then}
use Rattle.buf_mut.proofs.Laws.{room-first, room_next, put_one, put_three}
use Rattle.row_encode_v0.proofs.write_key.Goals as goal

abbrev rest : List ℕ → ℕ → List ℕ
rest suffix seq = big 2 (length suffix) ++ (suffix ++ big 8 seq)

pub returns : goal.returns
returns c =
    let after : List ℕ = rest c.args.key_suffix.now c.args.seq in
    let first = put_one (room-first 0 (big 2 c.args.shared) after c.requires.seq_in_bounds) c.put_u16.ensures c.place_after-a.ensures in
    wrote_then first
    (put_three (room_next after first c.requires.seq_in_bounds) c.put_u16-2.ensures c.place_after-b.ensures c.copy_in.ensures c.place_after-c.ensures
    c.put_u64.ensures c.place_after.ensures)
