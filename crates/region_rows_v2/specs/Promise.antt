-- What each public function promises: an equation to the definition.
use Rattle.std.specs.Prelude.{◌≡◌, List, [], ℕ, Option}
use Rattle.place_v2.specs.Says.{view_in}
use Rattle.place_v2.specs.declared.Place.{Place}
use Rattle.region_rows_v2.specs.declared.Bounds.{Bounds}
use Rattle.region_rows_v2.specs.Bounds.{says_bounds, stretch_of}

-- the key's bytes tell nothing
abbrev pub BoundsOf : Place → List ℕ → Option Bounds → Type 0
BoundsOf p b r = says_bounds r ≡ stretch_of (view_in p []) b
