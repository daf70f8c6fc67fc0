-- What each public function promises: an equation to the definitions, that settles each number answered.
use Rattle.std.specs.Prelude.{ℕ, ◌≡◌, List, Result}
use Rattle.layout.specs.Res.{bind}
use Rattle.basics.specs.Answers.{says_same}
use Rattle.basics.specs.declared.Refusal.{Refusal}
use Rattle.trailer.specs.Says.{region_from}
use Rattle.trailer.specs.declared.Region.{Region}
use Rattle.whole_regions_v2.specs.declared.Last.{Last}
use Rattle.whole_regions_v2.specs.Regions.{end_numbered, last_to, rows_in}
use Rattle.whole_regions_v2.specs.Says.{says_last}

abbrev pub EndsLast : List ℕ → Region → List ℕ → Result Last Refusal → Type 0
EndsLast d g target r = says_last r ≡ bind (last_to d (region_from g) target) (end_numbered d (region_from g))

abbrev pub CountsRows : List ℕ → Region → Result ℕ Refusal → Type 0
CountsRows d g r = says_same r ≡ rows_in d (region_from g)
