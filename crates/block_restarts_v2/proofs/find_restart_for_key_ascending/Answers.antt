-- `find_restart_for_key_ascending` keeps its promise: the search's refusal, or one restart earlier than where its span closed.
-- Both are the definition's by what the search answered, which has tested the trailer.
use mathlib.Core.Path.{sym}
use Rattle.basics.specs.Answers.{handed-on}
use Rattle.block_restarts_v2.specs.Laws.{up-no, up_is}
use Rattle.block_restarts_v2.proofs.find_restart_for_key_ascending.Goals as goal

pub returns-in_err-found : goal.returns-in_err-found
returns-in_err-found c = handed-on (λ s. s) _ _ c.from_residual.ensures.1 (up-no _ _ _ (sym c.in_err-found.ensures))

pub returns : goal.returns
returns c = up_is _ _ _ _ (sym c.in_ok-found.ensures) c.saturating_sub-region.ensures
