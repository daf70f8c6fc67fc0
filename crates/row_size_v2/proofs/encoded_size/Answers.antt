-- `encoded_size` answers the size, or 1, 2, 3: each exit is one of the definition's. A key that passed its tests is small, and so is its value, so no sum wraps
-- and each length fits 32 bits.
use Prim.Native.Nat.{ℕ, ◌≤◌}
use mathlib.Core.Path.{◌≡◌, sym}
use native.Mathlib.Omega.{arith}
use Rattle.layout.specs.Limits.{max_key}
use Rattle.layout.specs.Res.{ok}
use Rattle.basics.specs.Answers.{handed-on}
use Rattle.row_size_v2.specs.Promise.{key_length}
use Rattle.row_size_v2.proofs.Writes.{key-tested, size_unkeyed, size-over, size-sum}
use Rattle.row_size_v2.proofs.encoded_size.Goals as goal

key-small : {n m : ℕ} → ok m ≡ key_length n → n ≤ max_key
key-small e = (key-tested _ (sym e)).2

pub returns-in_err-key_len : goal.returns-in_err-key_len
returns-in_err-key_len c = handed-on (λ v. v) _ _ c.from_residual.ensures.1 (size_unkeyed _ _ _ _ _ _ (sym c.in_err-key_len.ensures))

pub returns-then-kept-gt-MAX_VALUE : goal.returns-then-kept-gt-MAX_VALUE
returns-then-kept-gt-MAX_VALUE c = size-over _ _ _ _ _ _ (sym c.in_ok-key_len.ensures) c.kept_len-kept.ensures.0 c.if-kept-gt-MAX_VALUE.true

pub length_len-requires : goal.length_len-requires
length_len-requires c = omega (arith, key-small c.in_ok-key_len.ensures)

pub length_len-requires-2 : goal.length_len-requires-2
length_len-requires-2 c = omega (arith, key-small c.in_ok-key_len.ensures)

pub overflow_add-result : goal.overflow_add-result
overflow_add-result c = omega (arith, key-small c.in_ok-key_len.ensures)

pub overflow_add-result-2 : goal.overflow_add-result-2
overflow_add-result-2 c = omega (arith, key-small c.in_ok-key_len.ensures)

pub overflow_add-result-3 : goal.overflow_add-result-3
overflow_add-result-3 c = omega (arith, key-small c.in_ok-key_len.ensures)

pub overflow_add-result-4 : goal.overflow_add-result-4
overflow_add-result-4 c = omega (arith, key-small c.in_ok-key_len.ensures)

pub returns : goal.returns
returns c =
    size-sum _ _ _ _ _ _ (sym c.in_ok-key_len.ensures) c.kept_len-kept.ensures.0 c.if-kept-gt-MAX_VALUE.false
    c.length_len.ensures.0 c.length_len-2.ensures.0 c.length_len-3.ensures.0 c.time_len.ensures.0 c.time_len-2.ensures.0
