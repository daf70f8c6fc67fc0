-- `decode_at` keeps its promise: a plain row is the row that the rules read, with the eight bytes of seq as they were read; any other is decoded.
-- A plain row stands inside the data, so that no place of it wraps.
use Prim.Native.Nat.{◌≤◌}
use native.Mathlib.Omega.{arith}
use lib.ListN.{length}
use Rattle.std.specs.Prelude.{◌≡◌, Some}
use Rattle.std.proofs.Common.{ap, sym, ◌∙◌}
use Rattle.layout_v1.specs.Plain.{plain_value, plain_at}
use Rattle.row_plain_v2.specs.Promise.{plain_from, says_plain}
use Rattle.row_decode_v0.proofs.Laws.{plain-least, plain_row_lem}
use Rattle.row_decode_v0.proofs.decode_at.Goals.{In-Some}
use Rattle.row_decode_v0.proofs.decode_at.Goals as goal

told : (k : In-Some) → let a = k.args in Some (plain_from k.in-Some.plain) ≡ plain_at a.s.now a.at a.end a.most
told k = sym (ap says_plain k.in-Some.is) ∙ k.plain_at.ensures

-- a plain row has room up to its value
room : (k : In-Some) → plain_value k.args.at k.in-Some.plain.unshared ≤ length k.args.s.now
room k = plain-least _ _ _ _ _ (told k)

pub overflow_add-suffix_at : goal.overflow_add-suffix_at
overflow_add-suffix_at c = omega (arith, room (goal.at.overflow_add-suffix_at c).In-Some)

pub overflow_add-seq_at : goal.overflow_add-seq_at
overflow_add-seq_at c = omega (arith, room (goal.at.overflow_add-seq_at c).In-Some)

pub overflow_add-value_at : goal.overflow_add-value_at
overflow_add-value_at c = omega (arith, room (goal.at.overflow_add-value_at c).In-Some)

pub overflow_add-value_at-2 : goal.overflow_add-value_at-2
overflow_add-value_at-2 c = omega (arith, room (goal.at.overflow_add-value_at-2 c).In-Some)

pub returns : goal.returns
returns c = plain_row_lem _ _ _ _ _ (told (goal.at.returns c).In-Some) c.eight.ensures
