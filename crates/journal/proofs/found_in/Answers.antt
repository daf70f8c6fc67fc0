-- `found_in` makes the tests of the definition in its order.
use Prim.Native.Nat.{◌<◌}
use native.Mathlib.Omega.{arith}
use mathlib.Core.Path.{◌≡◌, ap, sym, ◌∙◌}
use Rattle.journal.specs.Record.{length_of, kind_at}
use Rattle.journal.specs.Laws.Found.{kind-is, kind-some, not_kind, found-end, found_unknown, found_incomplete, found-whole}
use Rattle.journal.proofs.found_in.Goals.{After-length-n}
use Rattle.journal.proofs.found_in.Goals as goal

pub returns-then-journal-at : goal.returns-then-journal-at
returns-then-journal-at c = sym (found-end _ _ c.if-journal-at.true)

pub returns-in_default : goal.returns-in_default
returns-in_default c = sym (found_unknown _ _ c.if-journal-at.false (not_kind _ _ c.in_default.ensures))

-- the length that the code has is that of the kind at the place, and is none of 0
long : (c : After-length-n) → (c.length-n.result ≡ length_of (kind_at c.args.journal.now c.args.at)) × (0 < c.length-n.result)
long c =
    let e = c.length-n.ensures in
    (e ∙ ap length_of (kind-is _ _ c.in-Ok.ensures), omega (arith, kind-some c.in-Ok.kind))

pub returns-then-journal-at-2 : goal.returns-then-journal-at-2
returns-then-journal-at-2 c =
    let l = long (goal.at.returns-then-journal-at-2 c).After-length-n in
    sym (found_incomplete c.args.journal.now c.args.at c.if-journal-at.false (λ e. omega (arith, e)) (omega arith))

pub returns : goal.returns
returns c =
    let l = long (goal.at.returns c).After-length-n in
    rw (c.body_at.ensures, kind-is _ _ c.in-Ok.ensures, l.0)
    (sym (found-whole c.args.journal.now c.args.at c.if-journal-at.false (λ e. omega (arith, e)) (omega arith)))
