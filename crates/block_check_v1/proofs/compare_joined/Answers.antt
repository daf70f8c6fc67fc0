-- `compare_joined` keeps its promise: the first part is held against as many bytes of the other key, and only where these are equal the second is against
-- the rest.
-- Each exit is one law of keys compared in parts.
use mathlib.Core.Path.{◌≡◌, sym, ap, ◌∙◌}
use Prim.Native.Nat.{◌-◌, ◌≤◌}
use lib.ListN.{length, take, drop}
use lib.Seq.{length-take-le}
use mathlib.Core.List.{◌++◌}
use borrow.Author.Rules.{rules}
use Rattle.std.specs.Ordering.{MatchOrdering}
use Rattle.std.specs.declared.cmp.Ordering.{Ordering}
use Rattle.std.specs.declared.cmp.Ordering.TheVariants.{Less, Equal, Greater}
use Rattle.layout.specs.Key.{Key, compare}
use Rattle.layout_v1.proofs.Laws.Joined.{joined-short, joined-less, joined-equal, joined_greater}
use Rattle.keys.specs.Says.{says_ordering}
use Rattle.block_check_v1.proofs.compare_joined.Goals as goal

-- how the first part stands decides, else the rest
joined-with : (a b c : Key) → length a ≤ length c → (o r : Ordering) {Rest : Type 0} → says_ordering o ≡ compare a (take (length a) c)
    → MatchOrdering o (r ≡ Less) Rest (r ≡ Greater) → (Rest → says_ordering r ≡ compare b (take (length c - length a) (drop (length a) c)))
    → says_ordering r ≡ compare (a ++ b) c
joined-with a b c h Less r e m rest = ap says_ordering m ∙ joined-less a b c h (sym e)
joined-with a b c h Equal r e m rest = rest m ∙ joined-equal a b c h (sym e)
joined-with a b c h Greater r e m rest = ap says_ordering m ∙ joined_greater a b c h (sym e)

pub returns-then-c-n : goal.returns-then-c-n
returns-then-c-n c = c.compare.ensures ∙ joined-short _ _ _ c.if-c-n.true

pub slice_bounds-compare-end : goal.slice_bounds-compare-end
slice_bounds-compare-end c = sym (length-take-le _ _ c.if-c-n.false)

pub returns : goal.returns
returns c = joined-with _ _ _ c.if-c-n.false _ _ c.compare-2.ensures c.then_with.ensures (λ r. search rules)
