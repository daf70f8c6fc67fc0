-- `write_time` keeps its promise: eight bytes for a time, none for an absent one, or 6 and an untouched buffer.
-- In each case the time is known, and with it its bytes: none are written where the buffer reaches to their place, and eight are what `put_i64` promises.
use Rattle.std.specs.Prelude.{Option, ℤ}
use Prim.Native.Nat.{ℕ}
use mathlib.Core.Path.{◌≡◌, sym, ap, ◌∙◌}
use mathlib.Core.List.{List, []}
use native.Mathlib.Omega.{arith}
use mir.Syntax.{w64}
use mir.Val.{to_z, of_z}
use borrow.Author.Rules.{rules}
use Rattle.layout.specs.Row.{time_bytes}
use Rattle.layout.proofs.Laws.RowWrite.{time_absent, time-present}
use Rattle.layout.proofs.Laws.Splice.{wrote_none}
use Rattle.basics.specs.Says.{says_time}
use Rattle.buf_mut.proofs.Laws.{puts-short, puts-wrote}
use Rattle.row_flags.proofs.write_time.Goals as goal

bytes_of : {t v : Option ℤ} {w : List ℕ} → t ≡ v → time_bytes (says_time v) ≡ w → w ≡ time_bytes (says_time t)
bytes_of e is = sym (ap (λ (t : Option ℤ). time_bytes (says_time t)) e ∙ is)

pub returns-then-output-at : goal.returns-then-output-at
returns-then-output-at c = rw (← bytes_of c.in_default.is time_absent) (puts-short [] _ _ (omega arith))

pub returns-in_default : goal.returns-in_default
returns-in_default c = rw (← bytes_of c.in_default.is time_absent) (puts-wrote (wrote_none _ _ (omega arith)))

pub returns : goal.returns
returns c =
    let same : to_z w64 (of_z w64 c.in-Some.t) ≡ c.in-Some.t = search rules in
    rw (← bytes_of c.in-Some.is (time-present c.in-Some.t)) (rw same at c.put_i64.ensures)
