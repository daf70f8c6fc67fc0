-- A step by value keeps the promise of a step in place: the method gives back a whole cursor, whose words and key bytes are put back.
-- Each exit is one law of `Steps` or `Laws`.
use Rattle.std.specs.Prelude.{Ok}
use Prim.Native.Nat.{ℕ}
use mathlib.Core.Bool.{Bool}
use mathlib.Core.List.{List}
use mathlib.Core.Path.{◌≡◌, ap, ◌∙◌}
use lib.ListN.{length}
use Rattle.layout.specs.Res.{ok}
use Rattle.layout.specs.Limits.{max_key}
use Rattle.basics.specs.Answers.{yes}
use Rattle.place_v2.specs.Says.{view_in}
use Rattle.block_iterator_v2.specs.Says.{view_of}
use Rattle.block_iterator_v2.specs.declared.BlockIteratorV2.{BlockIteratorV2}
use Rattle.row_words.specs.Words.{cursor_in, cursor_words, row_count}
use Rattle.block_words.specs.Says.{says_cursor}
use Rattle.by_value_words.specs.Promise.{PutsIterator}
use Rattle.block_words.proofs.Laws.{cursor-counts}
use Rattle.by_value_words.proofs.Laws.{put-words, put-bytes}
use Rattle.row_words.proofs.Laws.{stored}
use Rattle.block_words.proofs.Starts.{step-tells}
use Rattle.block_words.proofs.Steps.{steps_bad}
use Rattle.compare_by_value.proofs.Laws.{next-found, next-done, next-refused}
use Rattle.compare_by_value.proofs.slatedb_next_by_value.Goals.{In-Some}
use Rattle.compare_by_value.proofs.slatedb_next_by_value.Goals as goal

told : (k : In-Some) → let s = k.args in
    (length s.row.now ≡ row_count) × (length s.key.now ≡ max_key) × (cursor_in s.cursor.now s.key.now ≡ ok (view_in k.in-Some.p s.key.now))
told k =
    let s = k.args in
    step-tells s.cursor.now s.key.now s.row.now _ (yes (says_cursor s.key.now) k.step_in.ensures k.in-Some.is)

-- what is put back with the cursor
module _ (k : In-Some) {c : BlockIteratorV2} {r : Bool} {ws' key' : List ℕ} (p : PutsIterator c k.args.cursor.now k.args.key.now r ws' key') where
  words-put : ws' ≡ cursor_words (view_of c)
  words-put = put-words c k.args.cursor.now k.args.key.now (cursor-counts _ _ _ (told k).2) (told k).1 p

  bytes-put : key' ≡ c.key
  bytes-put = put-bytes c k.args.cursor.now k.args.key.now (cursor-counts _ _ _ (told k).2) (told k).1 p

pub returns-in_default : goal.returns-in_default
returns-in_default c =
    let s = c.args in
    steps_bad _ s.cursor.now s.key.now s.out.now s.row.now (yes (says_cursor s.key.now) c.step_in.ensures c.in_default.is)

pub iterator_over-requires : goal.iterator_over-requires
iterator_over-requires c = (told (goal.at.iterator_over-requires c).In-Some).1

pub returns-in-Some-stepped : goal.returns-in-Some-stepped
returns-in-Some-stepped c =
    let t = told (goal.at.returns-in-Some-stepped c).In-Some in
    next-found _ c.args.cursor.now c.args.key.now c.args.out.now c.args.row.now _ t.0 t.1 t.2 _ _ (rw c.iterator_over.ensures at c.next-next.ensures) (c.in-Ok.is ∙ ap Ok c.in-Some-stepped.is) (words-put (goal.at.returns-in-Some-stepped c).In-Some c.put_iterator.ensures) (bytes-put (goal.at.returns-in-Some-stepped c).In-Some c.put_iterator.ensures) (stored t.0 c.put_row.ensures)

pub returns-in_default-stepped : goal.returns-in_default-stepped
returns-in_default-stepped c =
    let t = told (goal.at.returns-in_default-stepped c).In-Some in
    next-done _ c.args.cursor.now c.args.key.now c.args.out.now c.args.row.now _ t.0 t.1 t.2 _ _ (rw c.iterator_over.ensures at c.next-next.ensures) (c.in-Ok.is ∙ ap Ok c.in_default-stepped.is) (words-put (goal.at.returns-in_default-stepped c).In-Some c.put_iterator.ensures) (bytes-put (goal.at.returns-in_default-stepped c).In-Some c.put_iterator.ensures)

pub returns-in-Err : goal.returns-in-Err
returns-in-Err c =
    let t = told (goal.at.returns-in-Err c).In-Some in
    next-refused _ c.args.cursor.now c.args.key.now c.args.out.now c.args.row.now _ t.0 t.1 t.2 _ _ (rw c.iterator_over.ensures at c.next-next.ensures) c.in-Err.is c.from.ensures
