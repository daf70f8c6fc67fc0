-- A step in place, of any row, keeps its promise: the words that mean nothing first, then what `next_in_place` promised of the cursor in the words.
-- Each exit is one law of a `Steps`.
use mathlib.Core.Path.{◌≡◌}
use lib.ListN.{length}
use Rattle.layout.specs.Res.{ok}
use Rattle.layout.specs.Limits.{max_key}
use Rattle.basics.specs.Answers.{yes}
use Rattle.place_v2.specs.Says.{view_in}
use Rattle.row_words.specs.Words.{cursor_in, row_count}
use Rattle.block_words.specs.Says.{says_cursor}
use Rattle.block_words.proofs.Laws.{cursor-counts}
use Rattle.block_words.proofs.Starts.{step-tells}
use Rattle.block_words.proofs.Steps.{steps_bad}
use Rattle.step_words.proofs.Steps.{moved-put, moved-refused}
use Rattle.step_words.proofs.next_words.Goals.{In-Some}
use Rattle.step_words.proofs.next_words.Goals as goal

told : (k : In-Some) → let s = k.args in
    (length s.row.now ≡ row_count) × (length s.key.now ≡ max_key) × (cursor_in s.cursor.now s.key.now ≡ ok (view_in k.in-Some.p s.key.now))
told k =
    let s = k.args in
    step-tells s.cursor.now s.key.now s.row.now _ (yes (says_cursor s.key.now) k.step_in.ensures k.in-Some.is)

pub returns-in_default : goal.returns-in_default
returns-in_default c =
    let s = c.args in
    steps_bad _ s.cursor.now s.key.now s.out.now s.row.now (yes (says_cursor s.key.now) c.step_in.ensures c.in_default.is)

pub put_moved-requires : goal.put_moved-requires
put_moved-requires c =
    let t = told (goal.at.put_moved-requires c).In-Some in
    (cursor-counts _ _ _ t.2, t.0)

pub returns-in-Ok : goal.returns-in-Ok
returns-in-Ok c =
    let s = c.args in
    let t = told (goal.at.returns-in-Ok c).In-Some in
    moved-put _ s.cursor.now s.key.now s.out.now s.row.now _ t.0 t.1 t.2 _ _ _ c.next_in_place.ensures _ c.in-Ok.is c.put_moved.ensures

pub returns-in-Err : goal.returns-in-Err
returns-in-Err c =
    let s = c.args in
    let t = told (goal.at.returns-in-Err c).In-Some in
    moved-refused _ s.cursor.now s.key.now s.out.now s.row.now _ t.0 t.1 t.2 _ _ _ c.next_in_place.ensures c.in-Err.is c.from.ensures
