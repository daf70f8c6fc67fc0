-- `put_grown` answers and leaves by the two cases of what adding answered: with a row, 0 and the words of its state; with none, the refusal's number and the words that were there.
-- In each arm the case is known, and the definitions of code and words compute at it; the words are six, as required, so `put_state` has stored.
use mathlib.Core.Path.{ap, sym, ◌∙◌}
use Rattle.std.specs.Prelude.{Result}
use Rattle.basics.specs.declared.Refusal.{Refusal}
use Rattle.state_v2.specs.declared.State.{State}
use Rattle.row_words.proofs.Laws.{stored}
use Rattle.add_words.specs.Says.{grown_code, grown_words}
use Rattle.add_words.proofs.put_grown.Goals as goal

pub returns-in-Ok : goal.returns-in-Ok
returns-in-Ok c =
    record {
      answer = sym (ap grown_code c.in-Ok.is);
      state = stored c.requires c.put_state.ensures ∙ sym (ap (λ (g : Result State Refusal). grown_words g c.args.builder.now) c.in-Ok.is);
    }

pub returns-in-Err : goal.returns-in-Err
returns-in-Err c =
    record {
      answer = c.from.ensures ∙ sym (ap grown_code c.in-Err.is);
      state = sym (ap (λ (g : Result State Refusal). grown_words g c.args.builder.now) c.in-Err.is);
    }
