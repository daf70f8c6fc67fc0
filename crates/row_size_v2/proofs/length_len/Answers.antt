-- `length_len` answers how many bytes a length takes as a varint, and that these are at most 5.
-- Below 128 a number is written as itself, one byte (`varint-small`). Any other is `varint_len` of a length that fits 32 bits, as required, so the cast keeps it; no varint has more
-- than 5 bytes (`varint-few`).
use mathlib.Core.Path.{ap, sym, ◌∙◌}
use native.Mathlib.Omega.{arith}
use lib.ListN.{length}
use Rattle.layout.proofs.Laws.Byte.{varint-small}
use Rattle.layout.proofs.Laws.Varint.{length-varint, varint-few}
use Rattle.row_size_v2.proofs.length_len.Goals as goal

pub returns-then-n-lt128 : goal.returns-then-n-lt128
returns-then-n-lt128 c =
    let n = c.args.n in
    (sym (ap length (varint-small n c.if-n-lt128.true)) ∙ length-varint n (omega arith), omega arith)

pub returns : goal.returns
returns c =
    let v = c.varint_len.ensures in
    (v.rule, omega (arith, v.bytes, varint-few c.args.n))
