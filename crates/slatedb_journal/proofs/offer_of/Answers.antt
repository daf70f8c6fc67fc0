-- `offer_of` makes the tests of the definition.
use mathlib.Core.Path.{refl}
use native.Mathlib.Omega.{arith}
use borrow.Author.Tests.{ne_eqb}
use Rattle.slatedb_journal.specs.Flat.{offered_by}
use Rattle.slatedb_journal.proofs.offer_of.Goals as goal

pub returns-in-1 : goal.returns-in-1
unfolding offered_by
returns-in-1 c = rw c.in-1.is refl

pub returns-in-2 : goal.returns-in-2
unfolding offered_by
returns-in-2 c = rw c.in-2.is refl

pub returns-in-3 : goal.returns-in-3
unfolding offered_by
returns-in-3 c = rw c.in-3.is refl

pub returns-in_default : goal.returns-in_default
unfolding offered_by
returns-in_default c = rw (ne_eqb c.args.kind 1 (λ e. omega (arith, e)), ne_eqb c.args.kind 2 (λ e. omega (arith, e)), ne_eqb c.args.kind 3 (λ e. omega (arith, e))) refl
