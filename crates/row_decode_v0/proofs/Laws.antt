-- What the bytes of a read number spell; where a plain row stands the data has room, and the row that is made of its numbers, with the eight bytes of seq as they were read,
-- is the one that the rules read.
use Prim.Native.Nat.{ℕ, ◌+◌, ◌≤◌}
use Rattle.std.specs.Prelude.{Some}
use mathlib.Core.Path.{◌≡◌, ap, sym, ◌∙◌}
use mathlib.Core.List.{List}
use native.Mathlib.Omega.{arith}
use lib.ListN.{length}
use Rattle.layout.specs.Res.{ok}
use Rattle.layout.specs.Place.{fixed_at}
use Rattle.layout.specs.Plain.{Plain}
use Rattle.layout.proofs.Laws.Plain.{fixed_at-is}
use Rattle.layout_v1.specs.RowRead.{read_row}
use Rattle.layout_v1.specs.Plain.{spelt, plain_value, plain_at, plain_as}
use Rattle.layout_v1.proofs.Laws.Plain.{PlainTells, plain_at-tells, plain-read}
use Rattle.buf.specs.Promise.{or_zero, ReadsBytes}

-- ---- numbers

pub bytes-spelt : (n : ℕ) (d : List ℕ) (at : ℕ) {r : ℕ} → ReadsBytes n d at r → at + n ≤ length d → r ≡ spelt n d at
bytes-spelt n d at e h = e.0 ∙ ap or_zero (fixed_at-is n d at h)

-- ---- plain rows

module _ (d : List ℕ) (at end most : ℕ) (p : Plain) (e : Some p ≡ plain_at d at end most) where
  tells : PlainTells d at end most p
  tells = plain_at-tells d at end most (sym e)

  pub plain-least : plain_value at p.unshared ≤ length d
  plain-least = omega (arith, tells.ends, tells.inside)

  pub plain_row_lem : {v : ℕ} → v ≡ or_zero (fixed_at 8 d (at + 4 + p.unshared)) → ok (plain_as at p v) ≡ read_row d at end most
  plain_row_lem q =
      let room = plain-least in
      ap (λ (x : ℕ). ok (plain_as at p x)) (q ∙ ap or_zero (fixed_at-is 8 d (at + 4 + p.unshared) (omega arith)))
      ∙ plain-read d at end most p tells
