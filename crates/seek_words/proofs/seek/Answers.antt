-- A seek in place keeps its promise: the words that mean nothing first, then what `seek_in_place` promised of the cursor in the words.
-- Each exit is one law of `Seeks`.
use mathlib.Core.Path.{◌≡◌}
use lib.ListN.{length}
use Rattle.layout.specs.Res.{ok}
use Rattle.basics.specs.Answers.{yes}
use Rattle.place_v2.specs.Says.{view_in}
use Rattle.row_words.specs.Words.{cursor_in, cursor_count}
use Rattle.block_words.specs.Says.{says_cursor}
use Rattle.block_words.proofs.Laws.{cursor-counts}
use Rattle.seek_words.proofs.Seeks.{seeks-short, seeks-no-cursor, found-put, found-refused}
use Rattle.seek_words.proofs.seek.Goals.{In-Some}
use Rattle.seek_words.proofs.seek.Goals as goal

cursor-read : (k : In-Some) → cursor_in k.args.cursor.now k.args.key.now ≡ ok (view_in k.in-Some.p k.args.key.now)
cursor-read k = yes (says_cursor k.args.key.now) (k.cursor_in.ensures k.args.key.now) k.in-Some.is

five_words_lem : (k : In-Some) → length k.args.cursor.now ≡ cursor_count
five_words_lem k = cursor-counts _ _ _ (yes (says_cursor k.args.key.now) (k.cursor_in.ensures k.args.key.now) k.in-Some.is)

pub returns-then-key-ne-MAX_KEY : goal.returns-then-key-ne-MAX_KEY
returns-then-key-ne-MAX_KEY c = seeks-short _ _ _ _ _ c.if-key-ne-MAX_KEY.true

pub returns-in_default : goal.returns-in_default
returns-in_default c =
    seeks-no-cursor _ _ _ _ _ c.if-key-ne-MAX_KEY.false (yes (says_cursor c.args.key.now) (c.cursor_in.ensures c.args.key.now) c.in_default.is)

pub put_found-requires : goal.put_found-requires
put_found-requires c = five_words_lem (goal.at.put_found-requires c).In-Some

pub returns-in-Ok : goal.returns-in-Ok
returns-in-Ok c =
    found-put _ _ _ _ _ c.in-Some.p c.if-key-ne-MAX_KEY.false (cursor-read (goal.at.returns-in-Ok c).In-Some) _ _ c.seek_in_place.ensures _ c.in-Ok.is c.put_found.ensures

pub returns-in-Err : goal.returns-in-Err
returns-in-Err c =
    found-refused _ _ _ _ _ c.in-Some.p c.if-key-ne-MAX_KEY.false (cursor-read (goal.at.returns-in-Err c).In-Some) _ _ c.seek_in_place.ensures c.in-Err.is c.from.ensures
