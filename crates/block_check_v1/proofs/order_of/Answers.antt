-- `order_of` keeps its promise: bytes that both keys share tell nothing, and those that only one shares stand where the first key does.
use mathlib.Core.Path.{◌≡◌, refl, ap, ◌∙◌}
use native.Mathlib.Omega.{arith}
use Rattle.std.specs.Ordering.{ordering_reverse}
use Rattle.std.specs.declared.cmp.Ordering.{Ordering}
use Rattle.std.specs.declared.cmp.Ordering.TheVariants.{Less, Equal, Greater}
use Rattle.keys.specs.Says.{says_ordering}
use Rattle.layout_v1.specs.Laws.Joined.{flipped}
use Rattle.layout_v1.proofs.Laws.Joined.{compare-flip, shares-more}
use Rattle.block_check_v1.proofs.order_of.Goals as goal

-- std's reverse of an order says the order flipped
reverse-said : (o : Ordering) → says_ordering (ordering_reverse o) ≡ flipped (says_ordering o)
reverse-said Less = refl
reverse-said Equal = refl
reverse-said Greater = refl

pub returns-then-shared-last_shared : goal.returns-then-shared-last_shared
returns-then-shared-last_shared c =
    let a = c.args in
    let h = c.if-shared-last_shared.true in
    ap says_ordering c.reverse.ensures
    ∙ reverse-said _
    ∙ ap flipped (c.compare_joined.ensures ∙ shares-more a.data.now 4 a.shared a.last_shared a.suffix.now a.last_suffix.now (omega arith))
    ∙ compare-flip _ _

pub returns : goal.returns
returns c =
    let a = c.args in
    c.compare_joined-2.ensures ∙ shares-more a.data.now 4 a.last_shared a.shared a.last_suffix.now a.suffix.now c.if-shared-last_shared.false
