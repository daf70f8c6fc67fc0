-- `kept_at` keeps to the definition: the value's length, its limit, and that the value is all there.
-- A length within its limit, from a place inside the data, does not wrap.
use Prim.Native.Nat.{◌+◌}
use mathlib.Core.Path.{sym, ap}
use native.Mathlib.Omega.{arith}
use Rattle.layout.specs.Res.{ok}
use Rattle.layout.proofs.Laws.Place.{fixed_at-ends}
use Rattle.layout.specs.RowRead.{Held}
use Rattle.layout_v1.specs.RowRead.{held_is}
use Rattle.layout_v1.proofs.Laws.RowReads.{value_none, value-long, value-short, value-good}
use Rattle.basics.specs.Answers.{handed-on}
use Rattle.row_decode_v0.specs.Reading.{held_from, kept_at}
use Rattle.row_decode_v0.proofs.kept_at.Goals as goal

pub returns-in_err-value_len : goal.returns-in_err-value_len
unfolding kept_at
returns-in_err-value_len c =
    handed-on held_from _ _ c.from_residual.ensures.1 (rw (← value_none _ _ (sym c.in_err-value_len.ensures.0)))

pub returns-then-len-gt-MAX_VALUE : goal.returns-then-len-gt-MAX_VALUE
unfolding kept_at
returns-then-len-gt-MAX_VALUE c = rw (← value-long _ _ (sym c.in_ok-value_len.ensures.0) c.if-len-gt-MAX_VALUE.true)

pub overflow_add-next : goal.overflow_add-next
overflow_add-next c = omega (arith, (fixed_at-ends 4 _ _ _ (sym c.in_ok-value_len.ensures.0)).1)

pub returns-then-s-next : goal.returns-then-s-next
unfolding kept_at
returns-then-s-next c = rw (← value-short _ _ (sym c.in_ok-value_len.ensures.0) c.if-len-gt-MAX_VALUE.false c.if-s-next.true)

pub returns : goal.returns
unfolding kept_at
returns c =
    let v = c.in_ok-value_len.value_len in
    rw (← value-good _ _ (sym c.in_ok-value_len.ensures.0) c.if-len-gt-MAX_VALUE.false c.if-s-next.false) (ap (λ (h : Held). ok (held_is h (v.next + v.value))) c.held_as-value.ensures)
