-- A row of the earlier format that is read depends on no byte at or past its end: the data is p and then s, the row ends inside p, and s may be any other bytes.
use Rattle.std.specs.Prelude.{ℕ, ◌+◌, ◌≤◌, ◌≡◌, List, ◌++◌, ltb, length}
use Rattle.std.proofs.Math.Path.{ap}
use Rattle.std.proofs.Common.{arith, length-append}
use Rattle.std.proofs.Math.ListN.{get_or-append}
use borrow.Author.Tests.{le-ltb}
use Rattle.layout.specs.Res.{ok}
use Rattle.layout.specs.Limits.{max_value}
use Rattle.layout.specs.Place.{fixed_at}
use Rattle.layout.specs.Row.{Kind, value, tombstone, merge}
use Rattle.layout.specs.RowRead.{head_tests, times_at, RowRead}
use Rattle.layout_v1.specs.RowRead.{Head, head_at, seq_at, Body, body_at, HeldAt, Span, value_at, held_at, row_at}
use Rattle.demands.specs.Laws.Local.{fixed_at-local, times_at-local}
use Rattle.layout.proofs.Laws.Res.{bind-then, guard-then, ok-inj}
use Rattle.layout.proofs.Laws.Place.{fixed_at-ends}
use Rattle.layout.proofs.Laws.Tells.{times_at-ends}
use Rattle.layout_v1.proofs.Laws.RowReads.{body_at-tells, value_at-tells, held_at-ends}

module _ (p s s' : List ℕ) where
  head_at-local : (at most : ℕ) (h : Head) → head_at (p ++ s) at most ≡ ok h → h.suffix_at ≤ length p → head_at (p ++ s') at most ≡ ok h
  unfolding head_at
  head_at-local at most h e k =
      bind-then (fixed_at 2 (p ++ s) at) _ h e λ a pa e₁.
      bind-then (fixed_at 2 (p ++ s) a.next) _ h e₁ λ b pb e₂.
      bind-then (head_tests most a.val b.val) _ h e₂ λ u t e₃.
      let n = ap (λ (x : Head). x.suffix_at) (ok-inj e₃) in
      let w = fixed_at-ends 2 (p ++ s) a.next b pb in
      rw (fixed_at-local p s s' 2 at a pa (omega arith), fixed_at-local p s s' 2 a.next b pb (omega arith)) e₂

  body_at-local : (h : Head) (b : Body) → body_at (p ++ s) h ≡ ok b → b.next ≤ length p → body_at (p ++ s') h ≡ ok b
  unfolding body_at
  body_at-local h b e k =
      let w = body_at-tells (p ++ s) h b e in
      let w₁ = w.1 in
      guard-then (ltb (length (p ++ s)) (seq_at h + 9)) 9 _ b e λ t e₁.
      bind-then (fixed_at 8 (p ++ s) (seq_at h)) _ b e₁ λ q pq e₂.
      let v = fixed_at-ends 8 (p ++ s) (seq_at h) q pq in
      let v₀ = v.0 in
      let e₃ = rw (get_or-append p s 0 q.next (omega arith)) at e₂ in
      rw (
        le-ltb (length (p ++ s')) (seq_at h + 9) (rw (length-append p s') (omega arith)),
        fixed_at-local p s s' 8 (seq_at h) q pq (omega arith),
        get_or-append p s' 0 q.next (omega arith),
      )
      e₃

  value_at-local : (at : ℕ) (v : Span) → value_at (p ++ s) at ≡ ok v → v.at + v.len ≤ length p → value_at (p ++ s') at ≡ ok v
  unfolding value_at
  value_at-local at v e k =
      let w = value_at-tells (p ++ s) at v e in
      bind-then (fixed_at 4 (p ++ s) at) _ v e λ n pn e₁.
      guard-then (ltb max_value n.val) 3 _ v e₁ λ t₁ e₂.
      guard-then (ltb (length (p ++ s)) (n.next + n.val)) 9 _ v e₂ λ t₂ e₃.
      let a = ap (λ (x : Span). x.at) (ok-inj e₃) in
      let l = ap (λ (x : Span). x.len) (ok-inj e₃) in
      rw (fixed_at-local p s s' 4 at n pn (omega arith), t₁, le-ltb (length (p ++ s')) (n.next + n.val) (rw (length-append p s') (omega arith))) e₃

  held_at-local : (k : Kind) (at : ℕ) (v : HeldAt) → held_at k (p ++ s) at ≡ ok v → v.next ≤ length p → held_at k (p ++ s') at ≡ ok v
  unfolding held_at
  held_at-local value at v e h =
      bind-then (value_at (p ++ s) at) _ v e λ a e₁ e₂.
      let n = ap (λ (x : HeldAt). x.next) (ok-inj e₂) in
      rw (value_at-local at a e₁ (omega arith)) e₂
  held_at-local tombstone at v e h = e
  held_at-local merge at v e h =
      bind-then (value_at (p ++ s) at) _ v e λ a e₁ e₂.
      let n = ap (λ (x : HeldAt). x.next) (ok-inj e₂) in
      rw (value_at-local at a e₁ (omega arith)) e₂

  pub row_at-local : (at most : ℕ) (r : RowRead) → row_at (p ++ s) at most ≡ ok r → r.next ≤ length p → row_at (p ++ s') at most ≡ ok r
  unfolding row_at
  row_at-local at most r e h =
      bind-then (head_at (p ++ s) at most) _ r e λ l e₁ e₂.
      bind-then (body_at (p ++ s) l) _ r e₂ λ b e₃ e₄.
      bind-then (times_at (p ++ s) b.next b.flags) _ r e₄ λ t e₅ e₆.
      bind-then (held_at b.flags.kind (p ++ s) t.next) _ r e₆ λ v e₇ e₈.
      let q = ap (λ (x : RowRead). x.next) (ok-inj e₈) in
      let k = body_at-tells (p ++ s) l b e₃ in
      let k₁ = k.1 in
      let m = times_at-ends (p ++ s) b.next b.flags t e₅ (omega (arith, k.0)) in
      let m₀ = m.0 in
      let o = held_at-ends b.flags.kind (p ++ s) t.next v m.1 e₇ in
      let o₀ = o.0 in
      rw (
        head_at-local at most l e₁ (omega arith),
        body_at-local l b e₃ (omega arith),
        times_at-local p s s' b.next b.flags t e₅ (omega arith) (omega arith),
        held_at-local b.flags.kind t.next v e₇ (omega arith),
      )
      e₈
