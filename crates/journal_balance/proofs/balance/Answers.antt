use Prim.Native.Nat.{◌+◌, ◌≤◌, ◌<◌}
use mathlib.Core.Path.{◌≡◌, refl, ap, sym, ◌∙◌}
use native.Mathlib.Omega.{arith}
use lib.ListN.{length}
use mir.Syntax.{w64}
use mir.Facts.{to_z-of_z}
use Rattle.std.specs.Prelude.{Some, None}
use Rattle.journal.specs.Record.{length_of, kind_at, body_at}
use Rattle.journal_balance.specs.Balance.{balance_in}
use Rattle.journal_balance.specs.Parts.{settled_from}
use Rattle.journal.specs.Laws.Found.{found-whole, kind-is, kind-some, not_kind}
use Rattle.journal_read.specs.Laws.Going.{going_end, going_unknown, going-tail}
use Rattle.journal_read.specs.Laws.Read.{tail_from, tail_none}
use Rattle.journal_balance.specs.Laws.Loops.{balance_long, balancing_start, balancing_more, balancing_last}
use Rattle.journal_balance.specs.Laws.Tree.{tree-start}
use Rattle.journal_balance.proofs.balance.Goals.{After-length-n}
use Rattle.journal_balance.proofs.balance.Goals as goal

pub returns-then-journal-gt-MAX_JOURNAL : goal.returns-then-journal-gt-MAX_JOURNAL
returns-then-journal-gt-MAX_JOURNAL c = sym (balance_long _ _ c.if-journal-gt-MAX_JOURNAL.true)

pub loop-at-init : goal.loop-at-init
loop-at-init c = (omega arith, omega arith, balancing_start _ _ _ refl (omega arith), λ f. tree-start _ _ 6240 refl)

pub returns-in_default : goal.returns-in_default
returns-in_default c =
    let b = c.loop-at.invariant.2 in
    let d = c.args.journal.now in
    going_unknown d (settled_from c.args.card (length d) b.before c.loop-at.s.ups c.loop-at.s.downs) (balance_in d c.args.card) c.loop-at.at b.going c.loop-at-test.true
    (not_kind _ _ c.in_default.ensures)

-- the length that the code has is that of the kind at the place, and is none of 0
long : (c : After-length-n) → (c.length-n.result ≡ length_of (kind_at c.args.journal.now c.loop-at.at)) × (0 < c.length-n.result)
long c =
    let e = c.length-n.ensures in
    (e ∙ ap length_of (kind-is _ _ c.in-Ok.ensures), omega (arith, kind-some c.in-Ok.kind))

pub balance-requires : goal.balance-requires
balance-requires c = omega (arith, c.loop-at.invariant.2.small)

pub returns-then-journal-at : goal.returns-then-journal-at
returns-then-journal-at c =
    let b = c.loop-at.invariant.2 in
    let d = c.args.journal.now in
    let h : c.loop-at.at < length d = c.loop-at-test.true in
    let l = long (goal.at.returns-then-journal-at c).After-length-n in
    sym (balancing_last d c.args.card c.loop-at.s c.loop-at.at b _ (Some c.loop-at.at) (to_z-of_z {w = w64} (record { sfits = c.balance.type_inv }) ∙ c.balance.ensures) (tail_from c.loop-at.at (length d) h))
    ∙ going-tail d (settled_from c.args.card (length d) b.before c.loop-at.s.ups c.loop-at.s.downs) (balance_in d c.args.card) c.loop-at.at b.going h
    (λ e. omega (arith, e)) (omega arith)

pub counted-s-requires : goal.counted-s-requires
counted-s-requires c =
    record { kind_value = (kind-is _ _ c.in-Ok.ensures, omega (arith, c.length-n.ensures), omega arith, omega (arith, c.loop-at.invariant.2.small)); keeps = c.loop-at.invariant.3 }

pub loop-at-preserved : goal.loop-at-preserved
loop-at-preserved c =
    let b = c.loop-at.invariant.2 in
    let d = c.args.journal.now in
    let at = c.loop-at.at in
    let h : at < length d = c.loop-at-test.true in
    let l = long (goal.at.loop-at-preserved c).After-length-n in
    let some : length_of (kind_at d at) ≡ 0 → ⊥ = λ e. omega (arith, e) in
    let fits : at + length_of (kind_at d at) ≤ length d = omega arith in (
      omega arith,
      omega arith,
      rw l.0
          (balancing_more d c.args.card c.loop-at.s at b _ h some fits
          (c.counted-s.ensures.counts_one.sums b.before (body_at (kind_at d at) d at) (at + length_of (kind_at d at)) b.passed (found-whole d at h some fits) b.closed) c.counted-s.ensures.counts_one.small),
      rw c.length-n.ensures c.counted-s.ensures.keeps_2,
    )

pub balance-requires-2 : goal.balance-requires-2
balance-requires-2 c = omega (arith, c.loop-at.invariant.2.small)

pub returns : goal.returns
returns c =
    let b = c.loop-at.invariant.2 in
    let d = c.args.journal.now in
    sym (balancing_last d c.args.card c.loop-at.s c.loop-at.at b _ None (to_z-of_z {w = w64} (record { sfits = c.balance-2.type_inv }) ∙ c.balance-2.ensures) (tail_none c.loop-at.at (length d) c.loop-at-test.false))
    ∙ going_end d (settled_from c.args.card (length d) b.before c.loop-at.s.ups c.loop-at.s.downs) (balance_in d c.args.card) c.loop-at.at b.going c.loop-at-test.false

pub loop-at-smaller : goal.loop-at-smaller
loop-at-smaller c = let l = long (goal.at.loop-at-smaller c).After-length-n in omega (arith, c.loop-at-test.true)
