-- A row's length bytes are determined by what is read: three varints that are read are those that are written for their numbers.
-- One after another, by the law of one varint (`varint-read-is-written`).
use Rattle.std.specs.Prelude.{ℕ, ◌+◌, ◌<◌, ◌≡◌, get_or, drop}
use Rattle.std.proofs.Math.Path.{ap, sym}
use Rattle.std.proofs.Common.{◌∙◌, take-append-drop, get_or-drop}
use mathlib.Core.List.{List, ◌++◌}
use Rattle.std.proofs.Math.Seq.{drop-drop}
use Rattle.layout.specs.Res.{ok}
use Rattle.layout.specs.Varint.{varint, read_varint}
use Rattle.layout.specs.Place.{NumAt, varint_at}
use Rattle.layout.specs.RowRead.{Lengths, lengths_is, lengths_at}
use Rattle.layout.proofs.Laws.Res.{bind-then, ok-inj}
use Rattle.layout.proofs.Laws.Varint.{varint-read-is-written}

module _ (d : List ℕ) (bytes : (i : ℕ) → get_or d i 0 < 256) where
  varint_at-written : (at : ℕ) (r : NumAt) → varint_at d at ≡ ok r → drop at d ≡ varint r.val ++ drop r.next d
  unfolding varint_at
  varint_at-written at r e =
      bind-then (read_varint (drop at d)) _ r e λ a p q.
      let written = varint-read-is-written (drop at d) a (λ i. rw (get_or-drop at d i 0) (bytes (at + i))) p in
      let v = ap (λ (x : NumAt). x.val) (ok-inj q) in
      let n = ap (λ (x : NumAt). x.next) (ok-inj q) in
      sym (take-append-drop a.len (drop at d)) ∙ rw (written, drop-drop a.len at d, v, n)

  pub lengths-are-written : (at : ℕ) (l : Lengths) → lengths_at d at ≡ ok l → drop at d ≡ varint l.shared ++ (varint l.unshared ++ (varint l.value_len ++ drop l.body d))
  unfolding lengths_at
  lengths-are-written at l e =
      bind-then (varint_at d at) _ l e λ a p e₁.
      bind-then (varint_at d a.next) _ l e₁ λ b q e₂.
      bind-then (varint_at d b.next) _ l e₂ λ c u e₃.
      let is : lengths_is a.val b.val c.val c.next ≡ l = ok-inj e₃ in
      rw (← is) (varint_at-written at a p ∙ ap (λ (x : List ℕ). varint a.val ++ x) (varint_at-written a.next b q ∙ ap (λ (x : List ℕ). varint b.val ++ x) (varint_at-written b.next c u)))
