-- What each answer says: the values, or the number of the refusal. No two say the same.
use Rattle.std.specs.Prelude.{◌≡◌, Result}
use Rattle.std.proofs.Common.{ap}
use Rattle.layout.specs.Res.{Res}
use Rattle.layout.specs.Trailer.{Trailer as TrailerL, Region as RegionL}
use Rattle.basics.specs.Answers.{says, says-one}
use Rattle.basics.specs.declared.Refusal.{Refusal}
use Rattle.trailer.specs.declared.Trailer.{Trailer}
use Rattle.trailer.specs.declared.Region.{Region}

abbrev pub trailer_from : Trailer → TrailerL
trailer_from t = record { count = t.count; size = t.size }

abbrev pub says_trailer : Result Trailer Refusal → Res TrailerL
says_trailer = says trailer_from

abbrev pub region_from : Region → RegionL
region_from g = record { start = g.start; end = g.end; reach = g.reach }

abbrev pub says_region : Result Region Refusal → Res RegionL
says_region = says region_from

-- ---- one to one

pub trailer_from-one : (t u : Trailer) → trailer_from t ≡ trailer_from u → t ≡ u
trailer_from-one t u e = ap (λ (x : TrailerL). record { count = x.count; size = x.size }) e

pub region_from-one : (g h : Region) → region_from g ≡ region_from h → g ≡ h
region_from-one g h e = ap (λ (x : RegionL). record { start = x.start; end = x.end; reach = x.reach }) e

pub says_trailer-one : (a b : Result Trailer Refusal) → says_trailer a ≡ says_trailer b → a ≡ b
says_trailer-one = says-one trailer_from trailer_from-one

pub says_region-one : (a b : Result Region Refusal) → says_region a ≡ says_region b → a ≡ b
says_region-one = says-one region_from region_from-one
