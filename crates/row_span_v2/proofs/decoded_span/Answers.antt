-- `decoded_span` keeps its promise: the four numbers of the row that was decoded, or its refusal, handed on.
use Rattle.std.proofs.Common.{ap}
use Rattle.layout.specs.Plain.{spans}
use Rattle.basics.specs.Answers.{handed-on}
use Rattle.row_span_v2.specs.Promise.{span_from}
use Rattle.row_span_v2.proofs.decoded_span.Goals as goal

pub returns-in_err-row : goal.returns-in_err-row
returns-in_err-row c = handed-on span_from _ _ c.from_residual.ensures.1 (ap spans c.in_err-row.ensures)

pub returns : goal.returns
returns c = ap spans c.in_ok-row.ensures
