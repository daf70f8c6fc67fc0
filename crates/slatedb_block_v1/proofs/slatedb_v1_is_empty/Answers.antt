-- `slatedb_v1_is_empty` keeps its promise: 254 for words that are no cursor, 14, or 0 and whether no row is left.
-- Each exit is one law of `Laws`, from what `cursor_in` and `is_empty` promised.
use Rattle.basics.specs.Answers.{yes}
use Rattle.cursor_words_v1.specs.Says.{says_cursor}
use Rattle.slatedb_block_v1.proofs.Laws.{empty-no-cursor, empty-told, empty-refused}
use Rattle.slatedb_block_v1.proofs.slatedb_v1_is_empty.Goals as goal

pub returns-in_default : goal.returns-in_default
returns-in_default c = empty-no-cursor _ _ _ (yes says_cursor c.cursor_in.ensures c.in_default.is)

pub returns-in-Ok : goal.returns-in-Ok
returns-in-Ok c =
    empty-told _ _ _ c.in-Some.c _ (yes says_cursor c.cursor_in.ensures c.in-Some.is) c.is_empty.ensures c.in-Ok.is c.truth_word.ensures

pub returns-in-Err : goal.returns-in-Err
returns-in-Err c =
    empty-refused _ _ _ c.in-Some.c _ (yes says_cursor c.cursor_in.ensures c.in-Some.is) c.is_empty.ensures c.in-Err.is c.from.ensures
