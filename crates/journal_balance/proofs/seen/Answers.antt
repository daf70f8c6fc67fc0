use Prim.Native.Nat.{◌+◌}
use mathlib.Core.Path.{◌≡◌, sym, ◌∙◌}
use mathlib.Core.Bool.{true}
use native.Mathlib.Omega.{arith}
use lib.ListN.{get_or}
use Rattle.journal.specs.Record.{byte_of}
use Rattle.journal_balance.specs.Parts.{Named}
use Rattle.journal_balance.specs.Tree.{Node}
use Rattle.journal_balance.specs.Laws.Tree.{seeking_more, seeking_found, seeking_met, seeking_none, offered-double, offered-new}
use Rattle.journal_balance.proofs.seen.Goals.{In-Some, Then-named_at}
use Rattle.journal_balance.proofs.seen.Goals as goal

-- the place in a slot that is not empty
held : (c : In-Some) → get_or c.args.tree.now c.loop-p.slot 0 ≡ c.in-Some.p + 1
held c = let h = c.in-Some.ensures in omega (arith, h.0, h.1, c.from-in-loop-p.ensures)

node : (c : In-Some) → Node c.args.journal.now c.args.at c.requires.tree.before c.loop-p.slot c.in-Some.p
node c = c.requires.tree.nodes c.loop-p.slot c.in-Some.p (held c)

-- the record at the place that the slot has is the one that is looked for
found : (c : Then-named_at) → Named c.args.journal.now c.in-Some.p (byte_of c.args.kind) c.args.card c.args.retry true
found c r next e = sym c.if-named_at.true ∙ c.named_at.ensures r next e

pub named_at-requires : goal.named_at-requires
named_at-requires c =
    let n = node (goal.at.named_at-requires c).In-Some in
    let o = c.requires.offers in
    (omega (arith, n.early, o.inside), o.short, o.long)

pub returns-then-named_at-clause-earlier : goal.returns-then-named_at-clause-earlier
returns-then-named_at-clause-earlier c =
    let h = held (goal.at.returns-then-named_at-clause-earlier c).In-Some in
    seeking_found _ _ _ _ c.requires.tree _ _ _ _ c.loop-p.invariant.1 _ h (found c)

pub returns-then-named_at-clause-tree_2 : goal.returns-then-named_at-clause-tree_2
returns-then-named_at-clause-tree_2 c =
    let h = held (goal.at.returns-then-named_at-clause-tree_2 c).In-Some in
    offered-double _ _ _ _ _ c.requires.offers _ c.requires.tree (seeking_met _ _ _ _ c.requires.tree _ _ _ _ c.loop-p.invariant.1 _ h (found c))

pub loop-p-smaller : goal.loop-p-smaller
loop-p-smaller c =
    let n = node (goal.at.loop-p-smaller c).In-Some in
    let o = c.requires.offers in
    omega (arith, n.early, n.above, o.inside, o.short)

pub loop-p-preserved : goal.loop-p-preserved
loop-p-preserved c =
    let n = node (goal.at.loop-p-preserved c).In-Some in
    let h = held (goal.at.loop-p-preserved c).In-Some in
    (omega (arith, n.early), seeking_more _ _ _ _ c.requires.tree _ _ _ _ c.loop-p.invariant.1 _ h (λ r next e. sym c.if-named_at.false ∙ c.named_at.ensures r next e))

pub returns-clause-earlier : goal.returns-clause-earlier
returns-clause-earlier c =
    seeking_none _ _ _ _ c.requires.tree _ _ _ _ c.loop-p.invariant.1 (omega (arith, c.in_default.ensures, c.from-in-loop-p.ensures)) c.requires.offers.long

pub returns-clause-tree_2 : goal.returns-clause-tree_2
returns-clause-tree_2 c =
    offered-new _ _ _ _ _ c.requires.offers _ c.requires.tree _ _ c.loop-p.invariant.1 (omega (arith, c.in_default.ensures, c.from-in-loop-p.ensures)) c.loop-p.invariant.0
