-- The plain step over words keeps its promise: one law for each exit.
-- The words are as many as they must be once the first test is passed, so that each is there and what is put
-- is all of them.
use native.Mathlib.Omega.{arith}
use Prim.Native.Nat.{◌+◌}
use Rattle.std.specs.Prelude.{Some}
use mathlib.Core.Path.{◌≡◌, refl}
use Rattle.step_plain_v2.specs.Promise.{StepsPlain}
use lib.ListN.{length}
use Rattle.row_words.specs.Words.{word_at, cursor_count}
use Rattle.words_plain.proofs.Laws.{flat-odd, flat-words, flat-other, flat-not, flat-ends, flat-made}
use Rattle.words_plain.proofs.plain_next.Goals.{Else-cursor-row, In-Some}
use Rattle.words_plain.proofs.plain_next.Goals as goal

six : (k : Else-cursor-row) → length k.args.cursor.now ≡ cursor_count
six k = (flat-words k.args.block.now k.args.cursor.now k.args.key.now k.args.out.now k.args.row.now k.if-cursor-row.false).0

-- the step that was made, and where it ends
went : (k : In-Some) → let s = k.args in
    StepsPlain (word_at s.cursor.now 1) (word_at s.cursor.now 2) (word_at s.cursor.now 5) (word_at s.cursor.now 3) s.key.now s.block.now s.out.now (Some k.in-Some.r) k.plain_step.new.key k.plain_step.new.out
went k = rw k.in-Some.is at k.plain_step.ensures

ends : (k : In-Some) → word_at k.args.cursor.now 2 + 12 + k.in-Some.r.unshared + k.in-Some.r.value_len ≡ k.in-Some.r.next
ends k =
    let s = k.args in
    flat-ends s.block.now s.cursor.now s.key.now s.out.now s.row.now k.if-cursor-row.false k.if-cursor.false refl refl refl refl _ (went k)

pub returns-then-cursor-row : goal.returns-then-cursor-row
returns-then-cursor-row c = flat-odd _ _ _ _ _ c.if-cursor-row.true

pub returns-then-cursor : goal.returns-then-cursor
returns-then-cursor c = flat-other _ _ _ _ _ c.if-cursor-row.false c.if-cursor.true

pub returns-in_default : goal.returns-in_default
returns-in_default c =
    flat-not _ _ _ _ _ c.if-cursor-row.false c.if-cursor.false refl refl refl refl (rw c.in_default.is at c.plain_step.ensures)

pub overflow_add-suffix_at : goal.overflow_add-suffix_at
overflow_add-suffix_at c = let e = ends (goal.at.overflow_add-suffix_at c).In-Some in omega arith

pub overflow_add-found : goal.overflow_add-found
overflow_add-found c = let e = ends (goal.at.overflow_add-found c).In-Some in omega arith

pub returns : goal.returns
returns c =
    flat-made _ _ _ _ _ c.if-cursor-row.false c.if-cursor.false refl refl refl refl _ (went (goal.at.returns c).In-Some) c.put_cursor.ensures c.put_row.ensures
