-- `write_marks` keeps its promise: flags, expire time and create time, one after another, or 6 and an untouched buffer.
-- The room is tested first, for as many bytes as the three take. So the store of the flags is a write of one byte and each writer after it has room; what the last one answers,
-- all three have put.
use Rattle.std.specs.Prelude.{Result}
use Prim.Native.Nat.{ℕ, ◌+◌, ◌≤◌}
use mathlib.Core.Path.{◌≡◌, subst}
use mathlib.Core.List.{List, [], ◌∷◌, ◌++◌}
use native.Mathlib.Omega.{arith}
use lib.ListN.{length, set, length-append}
use Rattle.layout.specs.Row.{if_so, present, time_bytes}
use Rattle.layout.proofs.Laws.Row.{length-time_bytes}
use Rattle.layout.specs.Laws.Splice.{Wrote}
use Rattle.layout.proofs.Laws.Splice.{wrote-set}
use Rattle.basics.specs.Says.{says_time}
use Rattle.basics.specs.declared.Refusal.{Refusal}
use Rattle.buf_mut.specs.Promise.{Puts}
use Rattle.buf_mut.specs.Promise.{place_after}
use Rattle.buf_mut.proofs.Laws.{puts-short, puts-length, room-first, room_next, put_one, puts_then}
use Rattle.row_flags.specs.declared.RowFields.{RowFields}
use Rattle.row_flags.specs.Promise.{Flagged}
use Rattle.row_flags.specs.Says.{mark_bytes}
use Rattle.row_flags.proofs.write_marks.Goals as goal

module _ (row : RowFields) where
  abbrev expire : List ℕ
  expire = time_bytes (says_time row.expire)

  abbrev create : List ℕ
  create = time_bytes (says_time row.create)

  marks-length : length (mark_bytes row) ≡ 1 + if_so (present (says_time row.expire)) 8 + if_so (present (says_time row.create)) 8
  marks-length = omega (arith, length-append expire create, length-time_bytes (says_time row.expire), length-time_bytes (says_time row.create))

  marks-put : {xs ys zs : List ℕ} {at x a : ℕ} {p q : Result ℕ Refusal} → at + length (mark_bytes row) ≤ length xs → Flagged row x → Puts expire (set xs at x) (at + 1) p ys → a ≡ place_after p
      → Puts create ys a q zs → Puts (mark_bytes row) xs at q zs
  marks-put {xs} {zs = zs} {at} {x} {q = r} h e p d q =
      let flag : Wrote xs at (x ∷ []) (set xs at x) (at + 1) = wrote-set xs at x (omega arith) in
      let rest = room_next (expire ++ create) flag h in
      subst (λ (b : ℕ). Puts (b ∷ (expire ++ create)) xs at r zs) e (puts_then h flag (puts_then rest (put_one (room-first (at + 1) expire create rest) p d) q))

pub returns-then-rest_from-len : goal.returns-then-rest_from-len
returns-then-rest_from-len c =
    let a = c.args in
    puts-short (mark_bytes a.row) a.output.now a.at (omega (arith, marks-length a.row))

pub returns : goal.returns
returns c =
    let a = c.args in
    marks-put a.row (omega (arith, marks-length a.row, c.if-rest_from-len.false)) c.flags.ensures c.write_time.ensures c.place_after-a.ensures c.write_time-2.ensures

pub shape_of-output : goal.shape_of-output
shape_of-output c = puts-length _ (returns c)
