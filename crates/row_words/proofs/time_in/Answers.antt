-- `time_in` loads a time from two words: whether there is one, and its bits.
-- Each exit is one law of `time_in`: a first word that is neither 0 nor 1 is none, at 0 the bits tell nothing, and at 1 the number is the one that `from_bits` promised of them.
use mir.Syntax.{w64}
use mir.Facts.{to_z-of_z}
use mathlib.Core.Path.{ap, sym, ◌∙◌}
use Rattle.layout.specs.Res.{ok}
use Rattle.row_words.proofs.Fields.{time_bad, time-at, time_absent}
use Rattle.row_words.proofs.time_in.Goals as goal

pub returns-in_err-there : goal.returns-in_err-there
returns-in_err-there c = rw c.from_residual.ensures (time_bad c.args.has c.args.bits (sym c.in_err-there.ensures))

pub returns-then-there : goal.returns-then-there
returns-then-there c =
    time-at c.args.has c.args.bits (sym c.in_ok-there.ensures ∙ ap ok c.if-there.true) (to_z-of_z {w = w64} (record { sfits = c.from_bits.type_inv }) ∙ c.from_bits.ensures)

pub returns : goal.returns
returns c =
    time_absent c.args.has c.args.bits (sym c.in_ok-there.ensures ∙ ap ok c.if-there.false)
