-- `row_in` keeps its promise: a plain row is the row that the rules read, with the eight bytes of seq as they were read; any other is decoded.
use Rattle.std.specs.Prelude.{Some, ◌≡◌, ◌+◌, ◌≤◌, length}
use Rattle.std.proofs.Common.{arith, sym, ap, ◌∙◌}
use Rattle.layout.specs.Plain.{plain_at}
use Rattle.row_plain_v2.specs.Promise.{plain_from, says_plain}
use Rattle.row_span_v2.proofs.Whole.{plain-least, plain_row_lem}
use Rattle.row_span_v2.proofs.row_in.Goals.{In-Some}
use Rattle.row_span_v2.proofs.row_in.Goals as goal

told : (k : In-Some) → let a = k.args in Some (plain_from k.in-Some.plain) ≡ plain_at a.s.now a.at a.end k.may_share-most.result
told k = sym (ap says_plain k.in-Some.is) ∙ k.plain_at.ensures

least : (k : In-Some) → let a = k.args in (a.at + 12 + k.in-Some.plain.unshared ≤ k.in-Some.plain.next) × (k.in-Some.plain.next ≤ length a.s.now)
least k = plain-least _ _ _ _ _ (told k)

pub overflow_sub-plain : goal.overflow_sub-plain
overflow_sub-plain c = omega (arith, (least (goal.at.overflow_sub-plain c).In-Some).0)

pub overflow_add-suffix_at : goal.overflow_add-suffix_at
overflow_add-suffix_at c = let w = least (goal.at.overflow_add-suffix_at c).In-Some in omega (arith, w.0, w.1)

pub overflow_add-value_at : goal.overflow_add-value_at
overflow_add-value_at c = let w = least (goal.at.overflow_add-value_at c).In-Some in omega (arith, w.0, w.1)

pub returns : goal.returns
returns c = plain_row_lem _ _ _ _ _ _ c.may_share-most.ensures (told (goal.at.returns c).In-Some) c.eight-seq.ensures
