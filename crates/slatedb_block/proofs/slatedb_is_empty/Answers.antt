-- `slatedb_is_empty` keeps its promise: 254 for words that are no cursor, 14, or 0 and whether no row is left.
-- The answer doesn't depend on the key's bytes, which are not lent: words are a cursor whatever bytes stand beside them, and `is_empty_place` tells this whatever they are.
use Rattle.basics.specs.Answers.{yes}
use mathlib.Core.List.{[]}
use Rattle.block_words.specs.Says.{says_cursor}
use Rattle.slatedb_block.proofs.Laws.{empty-no-cursor, empty-told, empty-refused}
use Rattle.slatedb_block.proofs.slatedb_is_empty.Goals as goal

pub returns-in_default : goal.returns-in_default
returns-in_default c = empty-no-cursor _ _ _ (yes (says_cursor []) (c.cursor_in.ensures []) c.in_default.is)

pub returns-in-Ok : goal.returns-in-Ok
returns-in-Ok c =
    empty-told _ _ _ c.in-Some.p _ (yes (says_cursor []) (c.cursor_in.ensures []) c.in-Some.is) c.is_empty_place.ensures c.in-Ok.is c.truth_word.ensures

pub returns-in-Err : goal.returns-in-Err
returns-in-Err c =
    empty-refused _ _ _ c.in-Some.p _ (yes (says_cursor []) (c.cursor_in.ensures []) c.in-Some.is) c.is_empty_place.ensures c.in-Err.is c.from.ensures
