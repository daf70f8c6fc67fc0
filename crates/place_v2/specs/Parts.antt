-- What the private functions answer.
use Rattle.std.specs.Prelude.{ℕ, ◌-◌, false, List, Result}
use Rattle.layout.specs.Res.{Res, bind}
use Rattle.layout.specs.Trailer.{Trailer, data_of, region_of}
use Rattle.layout.specs.Cursor.{Cursor}
use Rattle.basics.specs.Answers.{says}
use Rattle.basics.specs.declared.IterationOrder.{IterationOrder}
use Rattle.basics.specs.declared.Refusal.{Refusal}
use Rattle.whole_regions_v2.specs.Regions.{rows_in}
use Rattle.place_v2.specs.declared.Place.{Place}
use Rattle.place_v2.specs.Says.{view_in}

-- a cursor with no key
abbrev pub fresh : IterationOrder → ℕ → ℕ → ℕ → Place
fresh order region at n = record { order = order; region = region; at = at; number = n; key_len = 0; done = false }

-- how many rows the last region has
abbrev pub last_rows : List ℕ → Trailer → Res ℕ
last_rows b t = bind (region_of b t (t.count - 1)) λ g. rows_in (data_of b t) g

-- the cursor of a block, whatever bytes its key lies in
abbrev pub says_opened : List ℕ → Result Place Refusal → Res Cursor
says_opened key = says (λ (p : Place). view_in p key)
