-- `time_at` keeps to the definition: eight bytes as a signed number where the flag is set, else nothing.
-- A signed number that an answer holds is the same when it is put into another (`same`).
use mathlib.Core.Path.{◌≡◌, sym, ap, ◌∙◌}
use lib.IntN.{ℤ}
use mir.Syntax.{w64}
use mir.Val.{to_z, of_z}
use Rattle.layout.specs.Res.{ok}
use Rattle.layout.specs.Row.{At}
use Rattle.layout.specs.RowRead.{time_is}
use Rattle.layout.proofs.Laws.RowExits.{time-short, time-read, time-none}
use Rattle.basics.specs.Answers.{handed-on}
use borrow.Author.Rules.{rules}
use Rattle.row_flags_decode.specs.Parts.{time_from}
use Rattle.row_flags_decode.proofs.time_at.Goals as goal

pub returns-in_err-number : goal.returns-in_err-number
returns-in_err-number c =
    rw c.if-flagged.true (handed-on time_from _ _ c.from_residual.ensures.1 (time-short _ _ (sym c.in_err-number.ensures)))

pub returns-then-flagged : goal.returns-then-flagged
returns-then-flagged c =
    let v = c.in_ok-number.number in
    let same : to_z w64 (of_z w64 v.value) ≡ v.value = search rules in
    rw c.if-flagged.true (ap (λ (z : ℤ). ok (time_is (At z) v.next)) same ∙ time-read _ _ (sym c.in_ok-number.ensures))

pub returns : goal.returns
returns c = rw c.if-flagged.false (time-none _ _)
