-- What each public function promises: equations to the definitions, that settle each number answered and each byte lent.
use Rattle.std.specs.Prelude.{ℕ, ◌≡◌, List, length, Option, Result, unwrap_or}
use Rattle.layout.specs.Res.{Res, bind}
use Rattle.layout.specs.Trailer.{Region as RegionL}
use Rattle.layout.specs.Number.{ended_by}
use Rattle.layout.specs.Cursor.{Keyed}
use Rattle.basics.specs.declared.Refusal.{Refusal}
use Rattle.trailer.specs.Says.{region_from}
use Rattle.trailer.specs.declared.Region.{Region}
use Rattle.block_regions_v2.specs.declared.Ended.{Ended}
use Rattle.block_regions_v2.specs.declared.Stop.{Stop}
use Rattle.block_regions_v2.specs.Regions.{row_numbered, halt_numbered, ending_at, out_after, walk_into, key_left}
use Rattle.block_regions_v2.specs.Says.{says_ended, says_place}

-- a row of a region that is wanted with its key at the start of a lent buffer: its answer r with the row's number, and the buffer that it leaves
pub record Gives (d : List ℕ) (g : RegionL) (want : Res Keyed) (out : List ℕ) (r : Result Ended Refusal) (out' : List ℕ) : Type 0 where
  pub answer : says_ended r ≡ bind want (row_numbered d g)
  pub bytes : out' ≡ out_after want out

-- as many rows are said to end there as p says, or as do
abbrev pub EndsAt : List ℕ → Region → ℕ → Option ℕ → List ℕ → Result Ended Refusal → List ℕ → Type 0
EndsAt d g stop p out r out' = Gives d (region_from g) (ending_at d (region_from g) stop (unwrap_or p (ended_by d (region_from g) stop)) (length out)) out r out'

-- where the walk stops, how long the key of the row before is, how many rows end at or before that place, and the slice that it leaves
pub record WalksInto (d : List ℕ) (g : Region) (target key : List ℕ) (r : Result Stop Refusal) (key' : List ℕ) : Type 0 where
  pub answer : says_place r ≡ bind (walk_into d (region_from g) target (length key)) (halt_numbered d (region_from g))
  pub bytes : key' ≡ key_left (region_from g) (walk_into d (region_from g) target (length key)) key
