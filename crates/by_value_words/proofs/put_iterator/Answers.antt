-- `put_iterator` stores a cursor that came by value: its words are those of its view, and its key's bytes are all copied. Where either has another number, both are left.
-- Both numbers are tested before the first write; so neither `put_cursor` nor the copy refuses, and a copy over all of the lent bytes leaves nothing of the old ones.
use mathlib.Core.Path.{◌≡◌}
use lib.ListN.{length}
use Rattle.layout.specs.Limits.{max_key}
use Rattle.by_value_words.proofs.Laws.{copied-whole, iterator_no-words, iterator_no-key, iterator_put}
use Rattle.row_words.proofs.Laws.{stored}
use borrow.Author.Rules.{rules}
use Rattle.by_value_words.proofs.put_iterator.Goals as goal

pub returns-then-cursor-ne-CURSOR_WORDS : goal.returns-then-cursor-ne-CURSOR_WORDS
returns-then-cursor-ne-CURSOR_WORDS c = iterator_no-words _ _ _ c.if-cursor-ne-CURSOR_WORDS.true

pub returns-then-key-ne-MAX_KEY : goal.returns-then-key-ne-MAX_KEY
returns-then-key-ne-MAX_KEY c = iterator_no-key _ _ _ c.if-cursor-ne-CURSOR_WORDS.false c.if-key-ne-MAX_KEY.true

pub returns : goal.returns
returns c =
    let whole : length c.args.c.key ≡ max_key = search rules in
    iterator_put c.args.c _ _ c.if-cursor-ne-CURSOR_WORDS.false c.if-key-ne-MAX_KEY.false (stored c.if-cursor-ne-CURSOR_WORDS.false c.put_cursor.ensures) (copied-whole c.args.c.key c.if-key-ne-MAX_KEY.false whole c.copy_in.ensures)
