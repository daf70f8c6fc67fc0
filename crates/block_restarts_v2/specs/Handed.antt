-- Where a walk starts, for a trailer that a caller hands in with any numbers: 18 unless they are the block's. Then the rules' own search, and its count.
use Rattle.std.specs.Prelude.{ℕ, ◌-◌, List}
use Rattle.layout.specs.Res.{Res, ok, bind}
use Rattle.layout.specs.Key.{Key}
use Rattle.layout.specs.Trailer.{Trailer}
use Rattle.layout.specs.Seek.{Found, search_restarts, start_down}
use Rattle.trailer.specs.Handed.{handed}
use Rattle.block_restarts_v2.specs.declared.Start.{Start}

abbrev pub start_is : ℕ → ℕ → Start
start_is region reads = record { region = region; reads = reads }

-- a block has a region 0, as its trailer counts one at least
abbrev pub search_at : List ℕ → Trailer → Key → Res Found
search_at b t target = handed b t 0 (search_restarts b t target)

-- ascending: one restart earlier than where the span closed, not below 0
unfoldable pub start_up_at : List ℕ → Trailer → Key → Res Start
start_up_at b t target =
    bind (search_at b t target) λ f.
    ok (start_is (f.place - 1) f.reads)

-- descending: the last of the run of restarts equal to the target, or one earlier; only the search's reads are counted
unfoldable pub start_down_at : List ℕ → Trailer → Key → Res Start
start_down_at b t target =
    bind (search_at b t target) λ f.
    bind (start_down b t target f.place) λ r.
    ok (start_is r f.reads)
