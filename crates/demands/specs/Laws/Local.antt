-- A row that is read depends on no byte at or past its end: the data is p and then s, the row ends inside p, and s may be any other bytes.
use Rattle.std.specs.Prelude.{ℕ, ◌+◌, ◌≤◌, ◌≡◌, Bool, List, ◌++◌, ltb, length, drop}
use Rattle.std.proofs.Math.Path.{ap}
use Rattle.std.proofs.Math.Bool.{true, false}
use Rattle.std.proofs.Common.{arith, length-drop}
use Rattle.std.proofs.Math.ListN.{length-append, get_or-append}
use Rattle.std.proofs.Math.Seq.{take-append-le, drop-append-le}
use borrow.Author.Tests.{le-ltb}
use Rattle.layout.specs.Res.{ok}
use Rattle.layout.specs.Limits.{max_value}
use Rattle.layout.specs.Varint.{read_varint}
use Rattle.layout.specs.Place.{NumAt, varint_at, fixed_at, SignedAt, signed_at}
use Rattle.layout.specs.RowRead.{Lengths, seq_at, lengths_at, may_share, head_tests, head_at, Flags, Body, body_tests, body_at, TimeAt, time_at, Times, times_at, RowRead, row_at, read_row}
use Rattle.layout.proofs.Laws.Res.{bind-then, guard-then, ok-inj}
use Rattle.layout.proofs.Laws.Varint.{read_varint-local}
use Rattle.layout.proofs.Laws.Place.{varint_at-ends, fixed_at-ends}
use Rattle.layout.proofs.Laws.Tells.{body_at-tells, time_at-ends, times_at-ends}

module _ (p s s' : List ℕ) where
  varint_at-local : (at : ℕ) (r : NumAt) → varint_at (p ++ s) at ≡ ok r → r.next ≤ length p → varint_at (p ++ s') at ≡ ok r
  unfolding varint_at
  varint_at-local at r e h =
      let w = varint_at-ends (p ++ s) at r e in
      bind-then (read_varint (drop at (p ++ s))) _ r e λ a e₁ e₂.
      let n = ap (λ (x : NumAt). x.next) (ok-inj e₂) in
      let e₃ = rw (drop-append-le at p s (omega arith)) at e₁ in
      rw (drop-append-le at p s' (omega arith), read_varint-local (drop at p) s s' a e₃ (rw (length-drop at p) (omega arith))) e₂

  pub fixed_at-local : (n at : ℕ) (r : NumAt) → fixed_at n (p ++ s) at ≡ ok r → r.next ≤ length p → fixed_at n (p ++ s') at ≡ ok r
  unfolding fixed_at
  fixed_at-local n at r e h =
      let w = fixed_at-ends n (p ++ s) at r e in
      guard-then (ltb (length (p ++ s)) (at + n)) 9 _ r e λ t e₁.
      let e₂ = rw (drop-append-le at p s (omega arith), take-append-le n (drop at p) s (rw (length-drop at p) (omega arith))) at e₁ in
      rw (
        le-ltb (length (p ++ s')) (at + n) (rw (length-append p s') (omega arith)),
        drop-append-le at p s' (omega arith),
        take-append-le n (drop at p) s' (rw (length-drop at p) (omega arith)),
      )
      e₂

  signed_at-local : (at : ℕ) (r : SignedAt) → signed_at (p ++ s) at ≡ ok r → r.next ≤ length p → signed_at (p ++ s') at ≡ ok r
  signed_at-local at r e h =
      bind-then (fixed_at 8 (p ++ s) at) _ r e λ w e₁ e₂.
      let n = ap (λ (x : SignedAt). x.next) (ok-inj e₂) in
      rw (fixed_at-local 8 at w e₁ (omega arith)) e₂

  lengths_at-local : (at : ℕ) (l : Lengths) → lengths_at (p ++ s) at ≡ ok l → l.body ≤ length p → lengths_at (p ++ s') at ≡ ok l
  unfolding lengths_at
  lengths_at-local at l e h =
      bind-then (varint_at (p ++ s) at) _ l e λ a pa e₁.
      bind-then (varint_at (p ++ s) a.next) _ l e₁ λ b pb e₂.
      bind-then (varint_at (p ++ s) b.next) _ l e₂ λ c pc e₃.
      let q = ap (λ (x : Lengths). x.body) (ok-inj e₃) in
      let lb = varint_at-ends (p ++ s) a.next b pb in
      let lc = varint_at-ends (p ++ s) b.next c pc in
      rw (varint_at-local at a pa (omega arith), varint_at-local a.next b pb (omega arith), varint_at-local b.next c pc (omega arith)) e₃

  head_at-local : (at n : ℕ) (restart : Bool) (l : Lengths) → head_at (p ++ s) at n restart ≡ ok l → l.body ≤ length p → head_at (p ++ s') at n restart ≡ ok l
  unfolding head_at
  head_at-local at n restart l e h =
      bind-then (lengths_at (p ++ s) at) _ l e λ m e₁ e₂.
      bind-then (head_tests (may_share restart n) m.shared m.unshared) _ l e₂ λ u t e₃.
      let k = ap (λ (x : Lengths). x.body) (ok-inj e₃) in
      rw (lengths_at-local at m e₁ (omega arith)) e₂

  body_at-local : (l : Lengths) (b : Body) → body_at (p ++ s) l ≡ ok b → b.next ≤ length p → body_at (p ++ s') l ≡ ok b
  unfolding body_at body_tests
  body_at-local l b e h =
      let k = body_at-tells (p ++ s) l b e in
      let k₂ = k.2 in
      bind-then (body_tests (length (p ++ s)) l.value_len (seq_at l + 9)) _ b e λ u t e₂.
      bind-then (fixed_at 8 (p ++ s) (seq_at l)) _ b e₂ λ q pq e₃.
      let w = fixed_at-ends 8 (p ++ s) (seq_at l) q pq in
      let w₀ = w.0 in
      let e₄ = rw (get_or-append p s 0 q.next (omega arith)) at e₃ in
      rw (
        le-ltb max_value l.value_len k.0,
        le-ltb (length (p ++ s')) (seq_at l + 9) (rw (length-append p s') (omega arith)),
        fixed_at-local 8 (seq_at l) q pq (omega arith),
        get_or-append p s' 0 q.next (omega arith),
      )
      e₄

  time_at-local : (f : Bool) (at : ℕ) (t : TimeAt) → time_at f (p ++ s) at ≡ ok t → t.next ≤ length p → time_at f (p ++ s') at ≡ ok t
  unfolding time_at
  time_at-local true at t e h =
      bind-then (signed_at (p ++ s) at) _ t e λ w e₁ e₂.
      let n = ap (λ (x : TimeAt). x.next) (ok-inj e₂) in
      rw (signed_at-local at w e₁ (omega arith)) e₂
  time_at-local false at t e h = e

  pub times_at-local : (at : ℕ) (f : Flags) (t : Times) → times_at (p ++ s) at f ≡ ok t → at ≤ length p → t.next ≤ length p → times_at (p ++ s') at f ≡ ok t
  unfolding times_at
  times_at-local at f t e k h =
      bind-then (time_at f.expire (p ++ s) at) _ t e λ a e₁ e₂.
      bind-then (time_at f.create (p ++ s) a.next) _ t e₂ λ c e₃ e₄.
      let n = ap (λ (x : Times). x.next) (ok-inj e₄) in
      let l = length-append p s in
      let m = time_at-ends f.expire (p ++ s) at a e₁ (omega arith) in
      let o = time_at-ends f.create (p ++ s) a.next c e₃ m.1 in
      let o₀ = o.0 in
      rw (time_at-local f.expire at a e₁ (omega arith), time_at-local f.create a.next c e₃ (omega arith)) e₄

  row_at-local : (at n : ℕ) (restart : Bool) (r : RowRead) → row_at (p ++ s) at n restart ≡ ok r → r.next ≤ length p → row_at (p ++ s') at n restart ≡ ok r
  unfolding row_at
  row_at-local at n restart r e h =
      bind-then (head_at (p ++ s) at n restart) _ r e λ l e₁ e₂.
      bind-then (body_at (p ++ s) l) _ r e₂ λ b e₃ e₄.
      bind-then (times_at (p ++ s) b.next b.flags) _ r e₄ λ t e₅ e₆.
      let q = ap (λ (x : RowRead). x.next) (ok-inj e₆) in
      let k = body_at-tells (p ++ s) l b e₃ in
      let k₁ = k.1 in
      let k₂ = k.2 in
      let m = times_at-ends (p ++ s) b.next b.flags t e₅ (omega arith) in
      let m₀ = m.0 in
      rw (head_at-local at n restart l e₁ (omega arith), body_at-local l b e₃ (omega arith), times_at-local b.next b.flags t e₅ (omega arith) (omega arith)) e₆

  pub read_row-local : (at end n : ℕ) (restart : Bool) (r : RowRead) → read_row (p ++ s) at end n restart ≡ ok r → r.next ≤ length p → read_row (p ++ s') at end n restart ≡ ok r
  unfolding read_row
  read_row-local at end n restart r e h =
      bind-then (row_at (p ++ s) at n restart) _ r e λ g e₁ e₂.
      guard-then (ltb end g.next) 16 _ r e₂ λ t e₃.
      let q = ap (λ (x : RowRead). x.next) (ok-inj e₃) in
      rw (row_at-local at n restart g e₁ (omega arith)) e₂
