-- Numbers at a place, as the code reads them: of bytes that are all there.
use Prim.Native.Nat.{ℕ, ◌+◌, ◌≤◌}
use mathlib.Core.Path.{◌≡◌, ap, ◌∙◌}
use mathlib.Core.List.{List}
use lib.ListN.{length}
use Rattle.layout.specs.Place.{fixed_at}
use Rattle.layout.proofs.Laws.Plain.{fixed_at-is}
use Rattle.buf.specs.Promise.{or_zero}
use Rattle.journal.specs.Record.{number_at}

pub number_is : (n : ℕ) (d : List ℕ) (at : ℕ) {r : ℕ} → at + n ≤ length d → r ≡ or_zero (fixed_at n d at) → r ≡ number_at n d at
unfolding number_at
number_is n d at h e = e ∙ ap or_zero (fixed_at-is n d at h)
