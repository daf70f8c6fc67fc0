-- What the private functions answer, and what they ask of a block.
use Rattle.std.specs.Prelude.{ℕ, ◌<◌, true, false, List, ◌≡◌}
use Rattle.layout.specs.Res.{Res, ok}
use Rattle.layout.specs.Trailer.{Trailer, trailer_of}
use Rattle.layout.specs.Cursor.{Cursor}
use Rattle.layout.specs.Seek.{Sought, sought_is}
use Rattle.basics.specs.declared.IterationOrder.{IterationOrder}
use Rattle.seek_in_place_v2.specs.declared.Found.{Found}
use Rattle.seek_in_place_v2.specs.declared.Found.TheVariants.{Landed, Done}

-- ---- where a seek ends

abbrev pub landed_at : IterationOrder → ℕ → ℕ → ℕ → ℕ → ℕ → Found
landed_at order region at n len reads = Landed (record { order = order; region = region; at = at; number = n; key_len = len; done = false }) reads

abbrev pub over_at : IterationOrder → ℕ → ℕ → ℕ → ℕ → Found
over_at order region at n reads = Done (record { order = order; region = region; at = at; number = n; key_len = 0; done = true }) reads

-- ---- a seek, once the search is made

-- a region of the block where a walk starts
pub record SetsOut (b : List ℕ) (t : Trailer) (region : ℕ) : Type 0 where
  pub read : trailer_of b ≡ ok t
  pub inside : region < t.count

-- the cursor that a walk leaves, beside the search's count
abbrev pub sought : ℕ → Cursor → Res Sought
sought reads c = ok (sought_is c reads)
