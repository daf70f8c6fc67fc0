-- `numbered_in` keeps its promise: a plain row is the row that the rules read, so its numbers are the span's, and the eight bytes before its flags are its
-- sequence number; any other is decoded. A plain row stands inside the data, so these bytes are there and no place wraps.
use Rattle.std.specs.Prelude.{Some, ◌≡◌}
use Rattle.std.proofs.Common.{arith, sym, ap, ◌∙◌}
use Rattle.layout.specs.Plain.{plain_at}
use Rattle.row_plain_v2.specs.Promise.{plain_from, says_plain}
use Rattle.row_span_v2.proofs.Laws.{plain-room}
use Rattle.row_span_v2.proofs.Whole.{plain-least, plain-numbered}
use Rattle.row_span_v2.proofs.numbered_in.Goals.{In-Some}
use Rattle.row_span_v2.proofs.numbered_in.Goals as goal

told : (k : In-Some) → let a = k.args in Some (plain_from k.in-Some.plain) ≡ plain_at a.s.now a.at a.end k.may_share-most.result
told k = sym (ap says_plain k.in-Some.is) ∙ k.plain_at.ensures

pub overflow_add-result : goal.overflow_add-result
overflow_add-result c = let a = c.args in omega (arith, plain-room a.s.now a.at a.end _ _ (told (goal.at.overflow_add-result c).In-Some))

pub overflow_sub-plain : goal.overflow_sub-plain
overflow_sub-plain c = let a = c.args in omega (arith, (plain-least a.s.now a.at a.end _ _ (told (goal.at.overflow_sub-plain c).In-Some)).0)

pub returns : goal.returns
returns c = plain-numbered _ _ _ _ _ _ c.may_share-most.ensures (told (goal.at.returns c).In-Some) c.eight.ensures
