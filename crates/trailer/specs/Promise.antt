-- What each public function promises: equations to the definitions, that settle each number answered.
use Rattle.std.specs.Prelude.{ℕ, ◌≡◌, Bool, List, Result, ⊤}
use Rattle.layout.specs.Trailer.{trailer_of}
use Rattle.basics.specs.Answers.{says_verdict}
use Rattle.basics.specs.declared.Refusal.{Refusal}
use Rattle.trailer.specs.declared.Trailer.{Trailer}
use Rattle.trailer.specs.declared.Region.{Region}
use Rattle.trailer.specs.Handed.{has_region, region_at, region_by, offsets_at}
use Rattle.trailer.specs.Says.{trailer_from, says_trailer, says_region}

abbrev pub ReadsTrailer : List ℕ → Result Trailer Refusal → Type 0
ReadsTrailer b a = says_trailer a ≡ trailer_of b

-- whether the numbers are those of a block of `len` bytes, with a region r
abbrev pub TestsTrailer : Trailer → ℕ → ℕ → Bool → Type 0
TestsTrailer t len r h = h ≡ has_region len (trailer_from t) r

-- a region of the trailer that is handed in
abbrev pub ReadsRegion : List ℕ → Trailer → ℕ → Result Region Refusal → Type 0
ReadsRegion b t r g = says_region g ≡ region_at b (trailer_from t) r

-- and one of the trailer that is read
abbrev pub ReadsRegionBy : List ℕ → ℕ → Result Region Refusal → Type 0
ReadsRegionBy b r g = says_region g ≡ region_by b r

abbrev pub TestsOffsets : List ℕ → Trailer → Result ⊤ Refusal → Type 0
TestsOffsets b t a = says_verdict a ≡ offsets_at b (trailer_from t)
