-- `encoded_size` answers the size, or 1, 2, 3: each exit is one of the definition's. A key that passed its tests is small, and so is its value, so no sum wraps; what is
-- counted of the value is what a row of its kind has.
use Prim.Native.Nat.{ℕ, ◌+◌}
use mathlib.Core.Path.{◌≡◌, refl, ap, sym, ◌∙◌}
use native.Mathlib.Omega.{arith}
use Rattle.layout.specs.Row.{Kind, value, tombstone, merge, kept_length, present}
use Rattle.layout.specs.Res.{ok}
use Rattle.layout_v1.specs.Row.{value_size}
use Rattle.layout_v1.proofs.Laws.RowWrites.{row_size-sum, size-no, size_is}
use Rattle.basics.specs.Answers.{handed-on}
use Rattle.basics.specs.Says.{says_kind, says_time}
use Rattle.row_size_v2.proofs.Writes.{key-tested, tests_unkeyed, tests-over, tests-pass}
use Rattle.row_size_v0.specs.Parts.{length_size}
use Rattle.row_size_v0.proofs.encoded_size.Goals as goal

sum_is : (k : Kind) (n : ℕ) → length_size k + kept_length k n ≡ value_size k n
sum_is value n = refl
sum_is tombstone n = refl
sum_is merge n = refl

pub returns-in_err-key_len : goal.returns-in_err-key_len
returns-in_err-key_len c = handed-on (λ v. v) _ _ c.from_residual.ensures.1 (size-no _ _ _ _ _ _ (tests_unkeyed _ _ (sym c.in_err-key_len.ensures)))

pub returns-then-kept-gt-MAX_VALUE : goal.returns-then-kept-gt-MAX_VALUE
returns-then-kept-gt-MAX_VALUE c =
    size-no _ _ _ _ _ _ (tests-over _ _ (sym c.in_ok-key_len.ensures) (omega arith))

pub overflow_add-result-5 : goal.overflow_add-result-5
overflow_add-result-5 c =
    let k = key-tested _ (sym c.in_ok-key_len.ensures) in
    omega (arith, k.2)

pub returns : goal.returns
returns c =
    let a = c.args in
    let q = sym c.in_ok-key_len.ensures in
    let n : _ = row_size-sum a.suffix_len (says_kind a.kind) a.value_len (present (says_time a.expire)) (present (says_time a.create)) in
    ap ok (omega (arith, sum_is (says_kind a.kind) a.value_len, n, c.kept_len-kept.ensures, c.value_len_size.ensures, c.time_len-2.ensures, c.time_len.ensures))
    ∙ size_is _ _ _ _ _ _ (tests-pass _ _ q (omega (arith, c.kept_len-kept.ensures, c.if-kept-gt-MAX_VALUE.false)))
