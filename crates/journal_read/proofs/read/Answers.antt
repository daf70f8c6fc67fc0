use Prim.Native.Nat.{◌+◌, ◌<◌}
use mathlib.Core.Path.{◌≡◌, ap, sym, ◌∙◌}
use native.Mathlib.Omega.{arith}
use lib.ListN.{length}
use Rattle.std.specs.Prelude.{Some, None}
use Rattle.journal.specs.Record.{length_of, kind_at, body_at}
use Rattle.journal.specs.Laws.Found.{kind-is, kind-some, not_kind}
use Rattle.journal_read.specs.Reader.{reading_of}
use Rattle.journal_read.specs.Parts.{shown}
use Rattle.journal_read.specs.Laws.Going.{going_end, going_unknown, going-tail, going_more}
use Rattle.journal_read.specs.Laws.Read.{tail_from, tail_none, reading_long, shown-start, shown-more, shown-last}
use Rattle.journal_read.proofs.read.Goals.{After-length-n}
use Rattle.journal_read.proofs.read.Goals as goal

pub returns-then-journal-gt-MAX_JOURNAL : goal.returns-then-journal-gt-MAX_JOURNAL
returns-then-journal-gt-MAX_JOURNAL c = sym (reading_long _ c.if-journal-gt-MAX_JOURNAL.true)

pub loop-at-init : goal.loop-at-init
loop-at-init c = (omega arith, omega arith, omega arith, shown-start _ (omega arith))

pub returns-in_default : goal.returns-in_default
returns-in_default c =
    going_unknown _ (shown _ c.loop-at.records) _ _ c.loop-at.invariant.3 c.loop-at-test.true (not_kind _ _ c.in_default.ensures)

-- the length that the code has is that of the kind at the place, and is none of 0
long : (c : After-length-n) → (c.length-n.result ≡ length_of (kind_at c.args.journal.now c.loop-at.at)) × (0 < c.length-n.result)
long c =
    let e = c.length-n.ensures in
    (e ∙ ap length_of (kind-is _ _ c.in-Ok.ensures), omega (arith, kind-some c.in-Ok.kind))

pub returns-then-journal-at : goal.returns-then-journal-at
returns-then-journal-at c =
    let d = c.args.journal.now in
    let h : c.loop-at.at < length d = c.loop-at-test.true in
    let l = long (goal.at.returns-then-journal-at c).After-length-n in
    sym (shown-last (length d) c.loop-at.records c.loop-at.at (Some c.loop-at.at) (tail_from c.loop-at.at (length d) h))
    ∙ going-tail d (shown (length d) c.loop-at.records) (reading_of d) c.loop-at.at c.loop-at.invariant.3 h (λ e. omega (arith, e)) (omega arith)

pub loop-at-preserved : goal.loop-at-preserved
loop-at-preserved c =
    let d = c.args.journal.now in
    let h : c.loop-at.at < length d = c.loop-at-test.true in
    let l = long (goal.at.loop-at-preserved c).After-length-n in
    let some : length_of (kind_at d c.loop-at.at) ≡ 0 → ⊥ = λ e. omega (arith, e) in (
      omega arith,
      omega arith,
      omega arith,
      rw l.0
          (going_more d (shown (length d) c.loop-at.records) (reading_of d) c.loop-at.at c.loop-at.invariant.3 h some (shown (length d) (c.loop-at.records + 1)) (omega arith)
          (shown-more (length d) c.loop-at.records (body_at (kind_at d c.loop-at.at) d c.loop-at.at))),
    )

pub returns : goal.returns
returns c =
    let d = c.args.journal.now in
    sym (shown-last (length d) c.loop-at.records c.loop-at.at None (tail_none c.loop-at.at (length d) c.loop-at-test.false))
    ∙ going_end d (shown (length d) c.loop-at.records) (reading_of d) c.loop-at.at c.loop-at.invariant.3 c.loop-at-test.false

pub loop-at-smaller : goal.loop-at-smaller
loop-at-smaller c = omega (arith, kind-some c.in-Ok.kind, c.length-n.ensures, c.loop-at-test.true)
