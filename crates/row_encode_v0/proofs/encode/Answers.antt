-- `encode` keeps its promise: the row, or 13, 1, 2, 3, 6 and an untouched buffer. `encoded_size` answers 1, 2, 3 and the count of the row's bytes, which the room is
-- tested by; a row that passes is small enough for `write_row`.
use mathlib.Core.Path.{sym}
use native.Mathlib.Omega.{arith}
use lib.ListN.{length}
use Rattle.layout_v1.proofs.Laws.RowWrites.{size-tells, size-bytes, encode-share, encode_unsized, encode-over, encode-sized}
use Rattle.basics.specs.Says.{says_kind}
use Rattle.row_flags.specs.Says.{fields_from}
use Rattle.row_size_v2.proofs.Writes.{lays-not, lays-handed, lays-wrote}
use Rattle.row_encode_v0.proofs.encode.Goals as goal

pub returns-then-first_len-shared : goal.returns-then-first_len-shared
returns-then-first_len-shared c = lays-not _ (encode-share _ _ _ _ _ c.if-first_len-shared.true)

pub returns-in_err-size : goal.returns-in_err-size
returns-in_err-size c = lays-handed _ _ _ c.from_residual.ensures.1 (encode_unsized _ _ _ _ _ c.if-first_len-shared.false (sym c.in_err-size.ensures))

pub returns-then-output-size : goal.returns-then-output-size
returns-then-output-size c = lays-not _ (encode-over _ _ _ _ _ c.if-first_len-shared.false (sym c.in_ok-size.ensures) c.if-output-size.true)

pub write_row-requires : goal.write_row-requires
write_row-requires c =
    let n = sym c.in_ok-size.ensures in
    let a = c.args in
    let t = size-tells a.shared (length a.key_suffix.now) (says_kind a.row.kind) (length a.value.now) _ _ n in
    record { shared_bound = (omega (arith, t.key-small), omega (arith, t.key-small), omega (arith, t.value-small)); value_in_bounds = omega (arith, size-bytes a.shared a.key_suffix.now (fields_from a.row a.value.now) n, c.if-output-size.false) }

pub returns : goal.returns
returns c =
    lays-wrote _ (encode-sized _ _ _ _ _ c.if-first_len-shared.false
    (sym c.in_ok-size.ensures) c.if-output-size.false) c.write_row.ensures
