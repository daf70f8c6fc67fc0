-- `copy_in` keeps its promise: the bytes of `src`, or 6 and an untouched buffer. `copy_all` answers whether there was room, and has settled the buffer.
use Prim.Native.Nat.{ℕ, ◌+◌, ◌≤◌}
use mathlib.Core.Path.{◌≡◌, refl, sym, ◌∙◌}
use mathlib.Core.Bool.{Bool, true, false}
use mathlib.Core.List.{List}
use native.Mathlib.Omega.{arith}
use lib.ListN.{length}
use borrow.Author.Tests.{leb-true, leb-false}
use Rattle.basics.specs.declared.Refusal.TheVariants.{BufferTooSmall}
use Rattle.layout.proofs.Laws.Splice.{put-short, put-wrote}
use Rattle.copies.specs.Promise.{CopiesAll}
use Rattle.std.specs.Prelude.{Ok, Err}
use Rattle.buf_mut.specs.Promise.{Puts}
use Rattle.buf_mut.proofs.copy_in.Goals as goal

module _ {src buf ys : List ℕ} {at : ℕ} {r : Bool} (h : CopiesAll src buf at r ys) where
  room : r ≡ true → at + length src ≤ length buf
  room e = leb-true (at + length src) (length buf) (sym h.answer ∙ e)

  put : r ≡ true → Puts src buf at (Ok (at + length src)) ys
  put e = record { answer = (put-wrote buf at src (record { is = refl; next = refl; room = room e })).0; bytes = h.bytes }

  refused : r ≡ false → Puts src buf at (Err BufferTooSmall) ys
  refused e = record { answer = (put-short buf at src (leb-false (at + length src) (length buf) (sym h.answer ∙ e))).0; bytes = h.bytes }

pub overflow_add-result : goal.overflow_add-result
overflow_add-result c = omega (arith, room c.copy_all.ensures c.if-copy_all.true)

pub returns-then-copy_all : goal.returns-then-copy_all
returns-then-copy_all c = put c.copy_all.ensures c.if-copy_all.true

pub returns : goal.returns
returns c = refused c.copy_all.ensures c.if-copy_all.false
