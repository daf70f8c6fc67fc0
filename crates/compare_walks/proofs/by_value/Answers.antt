use Rattle.std.proofs.Common.{◌≡◌, ℕ, false, length, ap, ◌∙◌, arith, length-take-le, rules}
use Rattle.std.specs.Prelude.{Ok}
use Rattle.layout.specs.Res.{ok}
use Rattle.layout.specs.Limits.{max_key}
use Rattle.basics.specs.Answers.{yes, handed-on}
use Rattle.row_decode_v2.specs.Says.{row_from}
use Rattle.block_iterator_v2.specs.Says.{view_of, says_next}
use Rattle.compare_walks.specs.Says.{walk_from}
use Rattle.compare_walks.specs.Walk.{walk_is}
use Rattle.compare_walks.proofs.Steps.{Finds, finds, ends, refuses}
use Rattle.compare_walks.proofs.Laws.{walking_start, walking_whole, walking_done, walking_refused, walking_more}
use Rattle.compare_walks.proofs.by_value.Goals.{After-next-next, In-Some}
use Rattle.compare_walks.proofs.by_value.Goals as goal

-- the cursor that a step gives back has its bytes
whole : (n : After-next-next) → length n.next-next.result.iterator.key ≡ max_key
whole n = search rules

-- the row that a turn finds
row-found : (k : In-Some) → let l = k.loop-rows in
    Finds k.args.block.now (view_of l.c) (view_of k.next-next.result.iterator) k.in-Some.found.region k.in-Some.found.number (row_from k.in-Some.found.row) k.next-next.new.out
row-found k =
    let l = k.loop-rows in
    let n = k.next-next in
    finds _ _ _ l.key _ l.invariant.1 (λ few. length-take-le _ _ (omega (arith, few, l.invariant.2))) _ _ _ (yes says_next n.ensures.answer (k.in_ok-found.was ∙ ap Ok k.in-Some.is)) n.ensures.view n.ensures.lent

pub loop-rows-init : goal.loop-rows-init
loop-rows-init c = (walking_start _ _ _, search rules, search rules)

pub with_row-sum-requires : goal.with_row-sum-requires
with_row-sum-requires c =
    let f = row-found (goal.at.with_row-sum-requires c).In-Some in
    (f.some, search rules, search rules)

pub loop-rows-preserved : goal.loop-rows-preserved
loop-rows-preserved c =
    let f = row-found (goal.at.loop-rows-preserved c).In-Some in
    (walking_more _ _ _ _ _ c.loop-rows.invariant.0 c.loop-rows-test.true _ _ _ _ f.is c.with_row-sum.ensures, search rules, whole (goal.at.loop-rows-preserved c).After-next-next)

pub returns-in_default : goal.returns-in_default
returns-in_default c =
    walking_done _ _ _ _ _ c.loop-rows.invariant.0 c.loop-rows-test.true (ends _ _ _ c.loop-rows.key _ c.loop-rows.invariant.1 (yes says_next c.next-next.ensures.answer (c.in_ok-found.was ∙ ap Ok c.in_default.is)) c.next-next.ensures.view c.next-next.ensures.lent)

pub returns-in_err-found : goal.returns-in_err-found
returns-in_err-found c =
    handed-on walk_from _ _ c.from_residual.ensures.1
    (walking_refused _ _ _ _ _ c.loop-rows.invariant.0 c.loop-rows-test.true (refuses _ _ _ c.loop-rows.invariant.1 (yes says_next c.next-next.ensures.answer c.in_err-found.was)))

pub returns : goal.returns
returns c =
    let all : c.args.limit ≡ c.loop-rows.rows = omega (arith, c.loop-rows.auto.rows-end, c.loop-rows-test.false) in
    ap (λ (n : ℕ). ok (walk_is false n c.loop-rows.sum)) all ∙ walking_whole _ _ _ _ _ c.loop-rows.invariant.0 c.loop-rows-test.false
