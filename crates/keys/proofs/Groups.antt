-- One turn of a loop that compares two keys eight bytes at a time, each read from a part of eight: equal numbers are equal bytes, so both keys begin with
-- eight bytes more in common.
use Prim.Native.Nat.{ℕ, ◌+◌, ◌-◌, ◌≤◌}
use mathlib.Core.Path.{◌≡◌, sym, ◌∙◌}
use native.Mathlib.Omega.{arith}
use lib.ListN.{length, take, drop}
use Rattle.layout.specs.Key.{Key}
use Rattle.layout.specs.Laws.Words.{Begins}
use Rattle.layout.proofs.Laws.Words.{Bytes, common-eight}
use Rattle.buf.specs.Promise.{ReadsEight}
use Rattle.buf.proofs.Laws.{eight-part}

pub begins-eight : (a b : Key) (n : ℕ) {x y : ℕ} → Begins a b n → n + 8 ≤ length a → n + 8 ≤ length b → Bytes a → Bytes b → ReadsEight (take (n + 8 - n) (drop n a)) 0 x → ReadsEight (take (n + 8 - n) (drop n b)) 0 y → x ≡ y
    → Begins a b (n + 8)
begins-eight a b n s h k u v ex ey e = omega (arith, common-eight a b n h k u v (sym (eight-part a n h ex) ∙ e ∙ eight-part b n k ey), s)
