-- `put_found` answers and leaves by the two cases of a seek that is good: the cursor's words and the count where it landed or was done.
-- In each arm the case is known, and the definitions compute at it. There are as many words as required, so the stores were made.
use mathlib.Core.Path.{ap, sym, ◌∙◌}
use Rattle.seek_in_place_v2.specs.declared.Found.{Found}
use Rattle.row_words.proofs.Laws.{stored}
use Rattle.seek_words.specs.Says.{found_code, found_words, found_reads}
use Rattle.seek_words.proofs.put_found.Goals as goal

pub returns-in-Landed : goal.returns-in-Landed
returns-in-Landed c =
    record {
      answer = sym (ap found_code c.in-Landed.is);
      state = stored c.requires c.put_cursor.ensures ∙ sym (ap (λ (f : Found). found_words f c.args.cursor.now) c.in-Landed.is);
      number = sym (ap (λ (f : Found). found_reads f c.args.reads.now) c.in-Landed.is);
    }

pub returns-in-Done : goal.returns-in-Done
returns-in-Done c =
    record {
      answer = sym (ap found_code c.in-Done.is);
      state = stored c.requires c.put_cursor-in-Done.ensures ∙ sym (ap (λ (f : Found). found_words f c.args.cursor.now) c.in-Done.is);
      number = sym (ap (λ (f : Found). found_reads f c.args.reads.now) c.in-Done.is);
    }
