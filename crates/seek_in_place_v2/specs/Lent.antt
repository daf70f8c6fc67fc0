-- A seek of a cursor whose key bytes a caller lends, any number of them: 18 unless they are as many as a key may have. Then the rules' own seek, in the
-- cursor's order.
use Rattle.std.specs.Prelude.{ℕ, ◌≡◌, not, List, eqb, length}
use Rattle.std.proofs.Common.{eq-eqb, ne_eqb}
use Rattle.layout.specs.Res.{Res, refuse, ◌when◌else◌}
use Rattle.layout.specs.Limits.{max_key}
use Rattle.layout.specs.Seek.{Sought, seek}
use Rattle.basics.specs.Says.{says_order}
use Rattle.place_v2.specs.declared.Place.{Place}

unfoldable pub seek_in : Place → List ℕ → List ℕ → List ℕ → Res Sought
seek_in p key b target = 18 when not (eqb (length key) max_key) else seek (says_order p.order) b target

module _ (p : Place) (key b target : List ℕ) where
  pub lent_other : (length key ≡ max_key → ⊥) → seek_in p key b target ≡ refuse 18
  unfolding seek_in
  lent_other h = rw (ne_eqb (length key) max_key h)

  pub lent-whole : length key ≡ max_key → {w : Res Sought} → seek (says_order p.order) b target ≡ w → seek_in p key b target ≡ w
  unfolding seek_in
  lent-whole h e = rw (eq-eqb (length key) max_key h) e
