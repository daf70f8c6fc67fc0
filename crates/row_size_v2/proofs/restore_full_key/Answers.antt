-- `restore_full_key` keeps its promise: the key, or 13, 1, 2, 19 and an untouched buffer. Each exit is one of the definition's; where the key fits, the shared bytes and
-- the suffix are two writes with room for both.
use mathlib.Core.Path.{sym}
use native.Mathlib.Omega.{arith}
use lib.ListN.{take, length-append}
use lib.Seq.{length-take-le}
use Rattle.layout.proofs.Laws.RowExits.{restore_share, restore_no, restore_short, restore_is}
use Rattle.buf_mut.proofs.Laws.{put_two}
use Rattle.row_size_v2.proofs.Writes.{lays-not, lays-handed, lays-wrote, key-tested, key-refused}
use Rattle.row_size_v2.proofs.restore_full_key.Goals as goal

pub returns-then-previous_key-shared : goal.returns-then-previous_key-shared
returns-then-previous_key-shared c = lays-not _ (restore_share _ _ _ _ c.if-previous_key-shared.true)

pub returns-in_err-len : goal.returns-in_err-len
returns-in_err-len c = lays-handed _ _ _ c.from_residual.ensures.1 (restore_no _ _ _ _ c.if-previous_key-shared.false (key-refused _ (sym c.in_err-len.ensures)))

pub returns-then-out-len : goal.returns-then-out-len
returns-then-out-len c =
    let k = key-tested _ (sym c.in_ok-len.ensures) in
    lays-not _ (restore_short _ _ _ _ c.if-previous_key-shared.false k.0 (omega arith))

pub slice_bounds-copy_in-end : goal.slice_bounds-copy_in-end
slice_bounds-copy_in-end c = sym (length-take-le _ _ c.if-previous_key-shared.false)

pub returns : goal.returns
returns c =
    let a = c.args in
    let k = key-tested _ (sym c.in_ok-len.ensures) in
    let shares = c.if-previous_key-shared.false in
    lays-wrote _ (restore_is _ _ _ _ shares k.0 (omega arith))
    (put_two (omega (arith, length-append (take a.shared a.previous_key.now) a.key_suffix.now, length-take-le a.shared a.previous_key.now shares))
    c.copy_in.ensures c.place_after-at.ensures c.copy_in-2.ensures c.place_after.ensures)
