-- A trailer and a region's number that a caller hands in: 18 unless the trailer's numbers are the block's and it has that region. Then the rules' own tests.
-- 14 is what a block's bytes answer, and never what these numbers do.
use Rattle.std.specs.Prelude.{ℕ, ◌+◌, ◌*◌, Bool, not, ◌&&◌, List, ltb, eqb, length}
use Rattle.layout.specs.Res.{Res, bind, ◌when◌else◌}
use Rattle.layout.specs.Trailer.{Trailer, Region, trailer_of, region_of, all_offsets}

-- rows, offsets and count are all of a block of `len` bytes, and r is below the count
abbrev pub has_region : ℕ → Trailer → ℕ → Bool
has_region len t r = ltb r t.count && eqb (t.size + (2 + 2 * t.count)) len

unfoldable pub handed : {A : Type 0} → List ℕ → Trailer → ℕ → Res A → Res A
handed b t r x = 18 when not (has_region (length b) t r) else x

abbrev pub region_at : List ℕ → Trailer → ℕ → Res Region
region_at b t r = handed b t r (region_of b t r)

-- region r of the trailer that is read
abbrev pub region_by : List ℕ → ℕ → Res Region
region_by b r = bind (trailer_of b) λ t. region_at b t r

-- a block has a region 0, as its trailer counts one at least
abbrev pub offsets_at : List ℕ → Trailer → Res (Unit {0})
offsets_at b t = handed b t 0 (all_offsets b t)
