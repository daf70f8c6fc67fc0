-- `write_record` writes the kind and then the body that the kind has. In each arm the record is known; the store and the writes after it are one write (`kind-then`).
use mathlib.Core.Logic.{◌⊎◌, inl, inr}
use Prim.Native.Nat.{ℕ, ◌+◌, ◌≤◌}
use mathlib.Core.Path.{◌≡◌, refl, ap, sym, ◌∙◌}
use mathlib.Core.List.{List, ◌∷◌}
use native.Mathlib.Omega.{arith}
use lib.ListN.{length, set, length-set}
use Rattle.layout.specs.Fixed.{big}
use Rattle.layout.specs.Place.{splice}
use Rattle.layout.proofs.Laws.Fixed.{length-big}
use Rattle.layout.proofs.Laws.Splice.{length-splice}
use Rattle.std.specs.Prelude.{Result}
use Rattle.buf_mut.specs.Promise.{Puts}
use Rattle.buf_mut.proofs.Laws.{copied}
use Rattle.journal.specs.declared.Record.{Record}
use Rattle.journal.specs.declared.Record.TheVariants.{Debit, TopUp, Close}
use Rattle.journal.specs.Record.{length_of, kind_of, body_bytes, record_bytes}
use Rattle.journal.specs.Laws.Found.{length-debit, length_up, length-close, kind-length}
use Rattle.journal_append.specs.Laws.Append.{length_record, kind-then}
use Rattle.journal_append.proofs.write_record.Goals as goal

module _ (xs : List ℕ) (used k : ℕ) (r : Record) (is : k ≡ kind_of r) (h : used + length_of (kind_of r) ≤ length xs) where
  -- what was put after the kind is what follows it in the record's bytes
  laid : (w : List ℕ) {ys : List ℕ} → record_bytes r ≡ kind_of r ∷ w → ys ≡ splice (set xs used k) (used + 1) w → ys ≡ splice xs used (record_bytes r)
  laid w e q =
      let long : 1 + length w ≡ length_of (kind_of r) = add-up w ∙ sym (ap length e) ∙ length_record r in
      kind-then xs used k w (omega (arith, long)) q ∙ ap (λ (n : ℕ). splice xs used (n ∷ w)) is ∙ ap (splice xs used) (sym e)
    where
      add-up : (w : List ℕ) → 1 + length w ≡ length (kind_of r ∷ w)
      add-up w = omega arith

  same : {ys : List ℕ} → ys ≡ splice xs used (record_bytes r) → length ys ≡ length xs
  same e = ap length e ∙ length-splice xs used (record_bytes r) (omega (arith, length_record r))

-- a debit and a top-up are as long, and have the same fields
abbrev OfTwo : Record → ℕ → ℕ → ℕ → Type 0
OfTwo r card retry amount = (r ≡ Debit card retry amount) ⊎ (r ≡ TopUp card retry amount)

two-bytes : (r : Record) {card retry amount : ℕ} → OfTwo r card retry amount → record_bytes r ≡ kind_of r ∷ body_bytes card retry amount
unfolding record_bytes
two-bytes r (inl e) = rw e refl
two-bytes r (inr e) = rw e refl

long : (r : Record) {card retry amount : ℕ} → OfTwo r card retry amount → length_of (kind_of r) ≡ 21
long r (inl e) = length-debit _ (ap kind_of e)
long r (inr e) = length_up _ (ap kind_of e)

close-bytes : (r : Record) (card : ℕ) → r ≡ Close card → record_bytes r ≡ kind_of r ∷ big 8 card
unfolding record_bytes
close-bytes r card e = rw e

pub bounds-buffer-used : goal.bounds-buffer-used
bounds-buffer-used c = omega (arith, kind-length c.args.record)

pub write_body-requires : goal.write_body-requires
write_body-requires c = rw length-set (omega (arith, long c.args.record c.in-Debit.is))

pub returns-in-Debit : goal.returns-in-Debit
returns-in-Debit c =
    laid c.args.buffer.now c.args.used c.from.result c.args.record (c.from.ensures ∙ c.kind.ensures) c.requires (body_bytes _ _ _) (two-bytes _ c.in-Debit.is) c.write_body.ensures

pub shape_of-buffer-in-Debit : goal.shape_of-buffer-in-Debit
shape_of-buffer-in-Debit c =
    same c.args.buffer.now c.args.used c.from.result c.args.record (c.from.ensures ∙ c.kind.ensures) c.requires (returns-in-Debit c)

put-card : (xs : List ℕ) (used k card : ℕ) (r : Record) {ys : List ℕ} {p : Result ℕ _} → r ≡ Close card → used + length_of (kind_of r) ≤ length xs → Puts (big 8 card) (set xs used k) (used + 1) p ys
    → ys ≡ splice (set xs used k) (used + 1) (big 8 card)
put-card xs used k card r e h q =
    copied (rw (length-set, length-big 8 card) (omega (arith, ap length_of (ap kind_of e), length-close 3 refl))) q

pub returns-in-Close : goal.returns-in-Close
returns-in-Close c =
    laid c.args.buffer.now c.args.used c.from.result c.args.record (c.from.ensures ∙ c.kind.ensures) c.requires (big 8 _) (close-bytes _ _ c.in-Close.is)
    (put-card c.args.buffer.now c.args.used c.from.result _ c.args.record c.in-Close.is c.requires c.put_u64.ensures)

pub shape_of-buffer-in-Close : goal.shape_of-buffer-in-Close
shape_of-buffer-in-Close c =
    same c.args.buffer.now c.args.used c.from.result c.args.record (c.from.ensures ∙ c.kind.ensures) c.requires (returns-in-Close c)
