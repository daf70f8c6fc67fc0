-- `named_at` compares retry number, card and kind with the bytes at the place.
use mathlib.Core.Path.{sym, ◌∙◌}
use borrow.Author.Tests.{eqb-true, eqb-false}
use Rattle.journal_balance.proofs.Named.{named-card, named_retry, named-last}
use Rattle.journal_balance.proofs.named_at.Goals.{then-eight-retry, else-eight-retry}
use Rattle.journal_balance.proofs.named_at.Goals as goal

pub returns-then-eight-card : goal.returns-then-eight-card
returns-then-eight-card c =
    elim c.if-eight-retry.branch [
      | then-eight-retry w ↦
          let at-card = w.eight-then-eight-retry in
          rw c.from.ensures
          (named-last _ _ _ _ _ c.requires.2 c.eight.result c.eight.ensures w.if-eight-retry.true at-card.result at-card.ensures (eqb-true _ _ (sym w.value-is ∙ c.if-eight-card.true)))
      | else-eight-retry w ↦ absurd (w.if-eight-retry.false (eqb-true _ _ (sym w.value-is ∙ c.if-eight-card.true)))
    ]

pub returns-else-eight-card : goal.returns-else-eight-card
returns-else-eight-card c =
    elim c.if-eight-retry.branch [
      | then-eight-retry w ↦
          let at-card = w.eight-then-eight-retry in
          rw c.if-eight-card.false (named-card _ _ _ _ _ c.requires.2 at-card.result at-card.ensures (eqb-false _ _ (sym w.value-is ∙ c.if-eight-card.false)))
      | else-eight-retry w ↦ rw c.if-eight-card.false (named_retry _ _ _ _ _ c.requires.2 c.eight.result c.eight.ensures w.if-eight-retry.false)
    ]
