-- `put_moved` answers and leaves by the two cases of a step that is good: the cursor's words where it moved, the row's where one was found.
-- In each arm the case is known, and the definitions compute at it. There are as many words as required, so the stores were made; what an arm doesn't store is as it was.
use mathlib.Core.Path.{ap, sym, ◌∙◌}
use Rattle.step_in_place_v2.specs.declared.Moved.{Moved}
use Rattle.row_words.proofs.Laws.{stored}
use Rattle.step_words.specs.Says.{moved_code, moved_words, moved_row}
use Rattle.step_words.proofs.put_moved.Goals as goal

pub returns-in-Found : goal.returns-in-Found
returns-in-Found c =
    record {
      answer = sym (ap moved_code c.in-Found.is);
      state = stored c.requires.0 c.put_cursor.ensures ∙ sym (ap (λ (m : Moved). moved_words m c.args.cursor.now) c.in-Found.is);
      row_words = stored c.requires.1 c.put_row.ensures ∙ sym (ap (λ (m : Moved). moved_row m c.args.row.now) c.in-Found.is);
    }

pub returns-in-Done : goal.returns-in-Done
returns-in-Done c =
    record {
      answer = sym (ap moved_code c.in-Done.is);
      state = stored c.requires.0 c.put_cursor-in-Done.ensures ∙ sym (ap (λ (m : Moved). moved_words m c.args.cursor.now) c.in-Done.is);
      row_words = sym (ap (λ (m : Moved). moved_row m c.args.row.now) c.in-Done.is);
    }
