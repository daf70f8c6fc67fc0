-- Each promise admits one outcome: two results that both keep it are equal.
use Rattle.std.specs.Prelude.{ℕ, ◌≡◌, refl, List, Option, Some, None}
use Rattle.std.proofs.Common.{ap, sym, ◌∙◌}
use Rattle.layout.proofs.Laws.Plain.{some-one, none-apart}
use Rattle.place_v2.specs.declared.Place.{Place}
use Rattle.region_rows_v2.specs.declared.Bounds.{Bounds}
use Rattle.region_rows_v2.specs.Bounds.{Stretch, stretch_from, says_bounds}
use Rattle.region_rows_v2.specs.Promise.{BoundsOf}

stretch_from-one : (r q : Bounds) → stretch_from r ≡ stretch_from q → r ≡ q
stretch_from-one r q e =
    ap (λ (s : Stretch). record { size = s.size; region = record { start = s.region.start; end = s.region.end; reach = s.region.reach } }) e

says_bounds-one : (r q : Option Bounds) → says_bounds r ≡ says_bounds q → r ≡ q
says_bounds-one None None e = refl
says_bounds-one None (Some q) e = absurd (none-apart e)
says_bounds-one (Some r) None e = absurd (none-apart (sym e))
says_bounds-one (Some r) (Some q) e = ap Some (stretch_from-one r q (some-one e))

pub bounds-of-settled : (p : Place) (b : List ℕ) (r q : Option Bounds) → BoundsOf p b r → BoundsOf p b q → r ≡ q
bounds-of-settled p b r q m n = says_bounds-one r q (m ∙ sym n)
