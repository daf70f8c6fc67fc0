-- `copy_all` keeps its promise: all of `src`, or an untouched buffer. The room is tested first, without a sum, and then all of it is copied.
use Prim.Native.Nat.{ℕ, ◌+◌, ◌≤◌, ◌<◌}
use mathlib.Core.Path.{◌≡◌, refl}
use mathlib.Core.Bool.{true, false}
use mathlib.Core.List.{List}
use native.Mathlib.Omega.{arith}
use lib.ListN.{length}
use borrow.Author.Tests.{lt-leb, le-leb}
use Rattle.layout.specs.Place.{splice}
use Rattle.layout.proofs.Laws.Splice.{put-short, put-wrote}
use Rattle.copies.specs.Promise.{CopiesAll}
use Rattle.copies.proofs.copy_all.Goals as goal

short : (src buf : List ℕ) (at : ℕ) → length buf < at + length src → CopiesAll src buf at false buf
short src buf at h = record { answer = rw (lt-leb (at + length src) (length buf) h); bytes = (put-short buf at src h).1 }

whole : {src buf ys : List ℕ} {at : ℕ} → at + length src ≤ length buf → ys ≡ splice buf at src → CopiesAll src buf at true ys
whole {src} {buf} {ys} {at} h e =
    record { answer = rw (le-leb (at + length src) (length buf) h); bytes = (put-wrote buf at src (record { is = e; next = refl; room = h })).1 }

pub returns-then-buf-at : goal.returns-then-buf-at
returns-then-buf-at c = short _ _ _ (omega arith)

pub returns-then-buf-at-2 : goal.returns-then-buf-at-2
returns-then-buf-at-2 c = short _ _ _ (omega arith)

pub returns : goal.returns
returns c = whole (omega arith) c.copy_whole.ensures
