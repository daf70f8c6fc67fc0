-- `put_gave` answers and leaves by the two cases of what was given: the cursor's words and the count, or nothing where the first row was refused.
-- In each arm the case is known, and the definitions compute at it.
use mathlib.Core.Path.{◌≡◌, ap, sym, ◌∙◌}
use mathlib.Core.Bool.{Bool, cond}
use Rattle.row_words.specs.Words.{done_code}
use Rattle.row_words.proofs.Laws.{stored}
use Rattle.std.specs.Prelude.{Result}
use Rattle.basics.specs.declared.Refusal.{Refusal}
use Rattle.block_rows_v2.specs.declared.Gave.{Gave}
use Rattle.block_rows_v2.specs.Says.{gave_code, gave_words, gave_count, PutsGave}
use Rattle.block_rows_v2.proofs.put_gave.Goals.{After-slice_known-in-Ok-1}
use Rattle.block_rows_v2.proofs.put_gave.Goals as goal

-- the arm of rows, by what "done" it says
put-rows : (k : After-slice_known-in-Ok-1) → {o : Bool} → k.in-Ok.g.over ≡ o
    → PutsGave k.args.gave k.args.cursor.now
    k.args.count.now (cond o done_code 0) k.put_cursor.new.words k.in-Ok.g.count
put-rows k {o} t =
    record {
      answer = sym (ap gave_code k.in-Ok.is ∙ ap (λ (x : Bool). cond x done_code 0) t);
      state = stored k.requires k.put_cursor.ensures ∙ sym (ap (λ (m : Result Gave Refusal). gave_words m k.args.cursor.now) k.in-Ok.is);
      number = sym (ap (λ (m : Result Gave Refusal). gave_count m k.args.count.now) k.in-Ok.is);
    }

pub returns-then-g : goal.returns-then-g
returns-then-g c = put-rows (goal.at.returns-then-g c).After-slice_known-in-Ok-1 c.if-g.true

pub returns-else-g : goal.returns-else-g
returns-else-g c = put-rows (goal.at.returns-else-g c).After-slice_known-in-Ok-1 c.if-g.false

pub returns-in-Err : goal.returns-in-Err
returns-in-Err c =
    record {
      answer = c.from.ensures ∙ sym (ap gave_code c.in-Err.is);
      state = sym (ap (λ (m : Result Gave Refusal). gave_words m c.args.cursor.now) c.in-Err.is);
      number = sym (ap (λ (m : Result Gave Refusal). gave_count m c.args.count.now) c.in-Err.is);
    }
