-- `decode` keeps its promise: it makes no test of its own.
-- What `decode_at` promises of the whole input is the definition of a single row.
use mathlib.Core.Path.{◌∙◌}
use Rattle.layout.proofs.Laws.Single.{single-is}
use Rattle.row_decode_v2.proofs.decode.Goals as goal

pub returns : goal.returns
returns c = c.decode_at.ensures ∙ single-is _ _
