-- A step of a cursor whose key bytes a caller lends, any number of them: 18 unless they are as many as a key may have. Then the rules' own step.
use Rattle.std.specs.Prelude.{ℕ, ◌≡◌, not, List, eqb, length}
use Rattle.std.proofs.Common.{eq-eqb, ne_eqb}
use Rattle.layout.specs.Res.{Res, refuse, guard}
use Rattle.layout.specs.Limits.{max_key}
use Rattle.layout.specs.Cursor.{Step, next}
use Rattle.place_v2.specs.declared.Place.{Place}
use Rattle.place_v2.specs.Says.{view_in}

unfoldable pub next_in : Place → List ℕ → List ℕ → ℕ → Res Step
next_in p key b room = guard (not (eqb (length key) max_key)) 18 (next (view_in p key) b room)

module _ (p : Place) (key b : List ℕ) (room : ℕ) where
  pub lent_other : (length key ≡ max_key → ⊥) → next_in p key b room ≡ refuse 18
  unfolding next_in
  lent_other h = rw (ne_eqb (length key) max_key h)

  pub lent-whole : length key ≡ max_key → {w : Res Step} → next (view_in p key) b room ≡ w → next_in p key b room ≡ w
  unfolding next_in
  lent-whole h e = rw (eq-eqb (length key) max_key h) e
