-- `put_added` puts a builder back: its words are those of its view, and its last key's bytes are all copied.
-- Words and bytes are as many as required, so `put_state` has stored, and the copy goes over all of the lent bytes: nothing of the old ones is left (`copied-whole`).
use mathlib.Core.Path.{◌≡◌}
use lib.ListN.{length}
use Rattle.layout.specs.Limits.{max_key}
use Rattle.by_value_words.proofs.Laws.{copied-whole}
use Rattle.row_words.proofs.Laws.{stored}
use borrow.Author.Rules.{rules}
use Rattle.compare_by_value.proofs.put_added.Goals as goal

pub returns : goal.returns
returns c =
    let whole : length c.args.b.last_key ≡ max_key = search rules in
    record {
      words = stored c.requires.0 c.put_state.ensures;
      bytes = copied-whole c.args.b.last_key c.requires.1 whole c.copy_in.ensures;
    }
