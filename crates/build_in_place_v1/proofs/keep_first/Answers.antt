-- `keep_first` keeps its promise: the first row's key is copied over the start of the lent bytes, which have room for it; after any other row they are as they were.
-- The test of the rows is the definition's.
use mathlib.Core.Path.{refl}
use native.Mathlib.Omega.{arith}
use borrow.Author.Tests.{eq-eqb, ne_eqb}
use Rattle.buf_mut.proofs.Laws.{copied}
use Rattle.build_in_place_v1.proofs.keep_first.Goals as goal

pub returns-then-rows-eq0 : goal.returns-then-rows-eq0
returns-then-rows-eq0 c = rw (eq-eqb _ _ c.if-rows-eq0.true) (refl, copied (omega (arith, c.requires)) c.copy_in.ensures)

pub returns : goal.returns
returns c = rw (ne_eqb _ _ c.if-rows-eq0.false) (refl, refl)
