-- A seek keeps its promise: the words that mean nothing first, then what `seek` promised of the cursor in the words, and what `put_sought` left.
-- Each exit is one law of `Steps`.
use mathlib.Core.Path.{◌≡◌}
use Rattle.layout.specs.Res.{ok}
use Rattle.basics.specs.Answers.{yes}
use Rattle.block_iterator.specs.Says.{view_of}
use Rattle.cursor_words_v1.specs.Words.{cursor_in}
use Rattle.cursor_words_v1.specs.Says.{says_cursor}
use Rattle.cursor_words_v1.proofs.Laws.{cursor-counts}
use Rattle.slatedb_block_v1.proofs.Steps.{seeks-no-cursor, seeks-landed, seeks-refused}
use Rattle.slatedb_block_v1.proofs.slatedb_v1_seek.Goals.{In-Some}
use Rattle.slatedb_block_v1.proofs.slatedb_v1_seek.Goals as goal

cursor-read : (k : In-Some) → cursor_in k.args.cursor.now ≡ ok (view_of k.in-Some.c)
cursor-read k = yes says_cursor k.cursor_in.ensures k.in-Some.is

pub returns-in_default : goal.returns-in_default
returns-in_default c = seeks-no-cursor _ _ _ _ (yes says_cursor c.cursor_in.ensures c.in_default.is)

pub put_sought-requires : goal.put_sought-requires
put_sought-requires c = cursor-counts _ _ (cursor-read (goal.at.put_sought-requires c).In-Some)

pub returns-in-Ok : goal.returns-in-Ok
returns-in-Ok c =
    seeks-landed _ _ c.args.cursor.now _ c.in-Some.c _ (cursor-read (goal.at.returns-in-Ok c).In-Some) c.seek-sought.ensures c.in-Ok.is c.put_sought.ensures

pub returns-in-Err : goal.returns-in-Err
returns-in-Err c =
    seeks-refused _ _ c.args.cursor.now _ c.in-Some.c _ (cursor-read (goal.at.returns-in-Err c).In-Some) c.seek-sought.ensures c.in-Err.is c.from.ensures
