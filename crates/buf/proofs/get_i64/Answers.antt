-- `get_i64` keeps its promise: the signed number of eight bytes, or 9 where the input ends.
-- It follows the definition: a refusal of `get_u64` is handed on, and a number that was read goes through `from_bits`.
use Rattle.std.specs.Prelude.{ℕ, ℤ, ◌≡◌, List}
use Rattle.std.proofs.Common.{sym, ◌∙◌}
use mir.Syntax.{w64}
use mir.Facts.{to_z-of_z}
use Rattle.layout.specs.Res.{ok}
use Rattle.layout.specs.Fixed.{unbits}
use Rattle.layout.proofs.Laws.Res.{handed}
use Rattle.layout.specs.Place.{num_at, fixed_at}
use Rattle.layout.specs.Place.{signed, as_signed, signed_at}
use Rattle.basics.specs.Answers.{handed-on}
use Rattle.buf.specs.Says.{signed_from}
use Rattle.buf.proofs.get_i64.Goals as goal

signed-read : (d : List ℕ) (at v n : ℕ) (z : ℤ) → fixed_at 8 d at ≡ ok (num_at v n) → z ≡ unbits v → ok (signed z n) ≡ signed_at d at
signed-read d at v n z e q = rw (e, q)

pub returns-in_err-word : goal.returns-in_err-word
returns-in_err-word c = handed-on signed_from _ _ c.from_residual.ensures.1 (handed as_signed (sym c.in_err-word.ensures))

pub returns : goal.returns
returns c = signed-read _ _ _ _ _ (sym c.in_ok-word.ensures) (to_z-of_z {w = w64} (record { sfits = c.from_bits.type_inv }) ∙ c.from_bits.ensures)
