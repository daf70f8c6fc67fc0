-- `decoded_numbered` keeps its promise: the numbers of the row that was decoded, or its refusal, handed on.
use Rattle.std.proofs.Common.{ap}
use Rattle.layout.specs.Res.{Res, ok, bind}
use Rattle.layout.specs.RowRead.{RowRead}
use Rattle.basics.specs.Answers.{handed-on}
use Rattle.row_span_v2.specs.Promise.{Numbered, numbered_of, numbered_from}
use Rattle.row_span_v2.proofs.decoded_numbered.Goals as goal

abbrev numbers : Res RowRead → Res Numbered
numbers x = bind x λ r. ok (numbered_of r)

pub returns-in_err-row : goal.returns-in_err-row
returns-in_err-row c = handed-on numbered_from _ _ c.from_residual.ensures.1 (ap numbers c.in_err-row.ensures)

pub returns : goal.returns
returns c = ap numbers c.in_ok-row.ensures
