-- `try_from` makes the tests of the definition.
use native.Mathlib.Omega.{arith}
use Rattle.journal.specs.Laws.Found.{kind_debit, kind_up, kind_close, kind_none}
use Rattle.journal.proofs.KindTryFromU8.try_from.Goals as goal

pub returns-in-1 : goal.returns-in-1
returns-in-1 c = kind_debit _ c.in-1.is

pub returns-in-2 : goal.returns-in-2
returns-in-2 c = kind_up _ c.in-2.is

pub returns-in-3 : goal.returns-in-3
returns-in-3 c = kind_close _ c.in-3.is

pub returns-in_default : goal.returns-in_default
returns-in_default c = kind_none _ (λ e. omega (arith, e)) (λ e. omega (arith, e)) (λ e. omega (arith, e))
