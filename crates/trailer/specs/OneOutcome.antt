-- Each promise admits one outcome: two results that both keep it are equal.
use Rattle.std.specs.Prelude.{ℕ, ◌≡◌, Bool, List, Result, ⊤}
use Rattle.std.proofs.Common.{sym, ◌∙◌}
use Rattle.basics.specs.Answers.{says_verdict-one}
use Rattle.basics.specs.declared.Refusal.{Refusal}
use Rattle.trailer.specs.declared.Trailer.{Trailer}
use Rattle.trailer.specs.declared.Region.{Region}
use Rattle.trailer.specs.Promise.{ReadsTrailer, TestsTrailer, ReadsRegion, ReadsRegionBy, TestsOffsets}
use Rattle.trailer.specs.Says.{says_trailer-one, says_region-one}

pub trailer-of-settled : (b : List ℕ) (r q : Result Trailer Refusal) → ReadsTrailer b r → ReadsTrailer b q → r ≡ q
trailer-of-settled b r q m n = says_trailer-one r q (m ∙ sym n)

pub has-region-settled : (t : Trailer) (len i : ℕ) (r q : Bool) → TestsTrailer t len i r → TestsTrailer t len i q → r ≡ q
has-region-settled t len i r q m n = m ∙ sym n

pub region-of-settled : (b : List ℕ) (t : Trailer) (i : ℕ) (r q : Result Region Refusal) → ReadsRegion b t i r → ReadsRegion b t i q → r ≡ q
region-of-settled b t i r q m n = says_region-one r q (m ∙ sym n)

pub region-by-settled : (b : List ℕ) (i : ℕ) (r q : Result Region Refusal) → ReadsRegionBy b i r → ReadsRegionBy b i q → r ≡ q
region-by-settled b i r q m n = says_region-one r q (m ∙ sym n)

pub all-offsets-settled : (b : List ℕ) (t : Trailer) (r q : Result ⊤ Refusal) → TestsOffsets b t r → TestsOffsets b t q → r ≡ q
all-offsets-settled b t r q m n = says_verdict-one r q (m ∙ sym n)
