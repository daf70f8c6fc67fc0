-- `varint_len` keeps its promise: its two cases are those of the rule of significant bits, and a law of varints says that the bytes
-- written are as many as that rule gives.
use mathlib.Core.Path.{sym, ◌∙◌}
use native.Mathlib.Omega.{arith}
use lib.Count.{leading_le}
use Rattle.layout.proofs.Laws.Byte.{varint_length-zero, varint_length-some}
use Rattle.layout.proofs.Laws.Varint.{length-varint}
use Rattle.utils.proofs.varint_len.Goals as goal

pub returns-then-v-eq0 : goal.returns-then-v-eq0
returns-then-v-eq0 c =
    let v = c.args.v in
    let one = sym (varint_length-zero v c.if-v-eq0.true) in
    record { rule = one; bytes = one ∙ sym (length-varint v (omega arith)) }

pub overflow_sub-b : goal.overflow_sub-b
overflow_sub-b c = leading_le 32 c.args.v

pub returns : goal.returns
returns c =
    let v = c.args.v in
    let some = sym (varint_length-some v c.if-v-eq0.false) in
    record { rule = some; bytes = some ∙ sym (length-varint v (omega arith)) }
