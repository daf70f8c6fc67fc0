-- `length` gives the length of the kind.
use mathlib.Core.Path.{ap, sym}
use mathlib.Core.Logic.{⊎_elim}
use Rattle.journal.specs.Record.{byte_of}
use Rattle.journal.specs.Laws.Found.{length-debit, length_up, length-close}
use Rattle.journal.proofs.Kind.length.Goals as goal

pub returns-in-Debit : goal.returns-in-Debit
returns-in-Debit c = ⊎_elim (λ e. sym (length-debit _ (ap byte_of e))) (λ e. sym (length_up _ (ap byte_of e))) c.in-Debit.is

pub returns-in-Close : goal.returns-in-Close
returns-in-Close c = sym (length-close _ (ap byte_of c.in-Close.is))
