use mathlib.Core.Path.{◌≡◌}
use Rattle.layout.proofs.Laws.Seek.{Climbing}
use Rattle.trailer.specs.Says.{trailer_from}
use Rattle.seek_in_place_v2.proofs.Walks.{PastLast}
use Rattle.seek_in_place_v2.proofs.walk_up.Given as goal

abbrev pub invariant-loop-index : goal.invariant-loop-index
invariant-loop-index l =
    Climbing l.block (trailer_from l.t) l.target l.start.region l.index × (l.key ≡ l.initial.key) × PastLast l.block (trailer_from l.t) l.start.region l.index l.passed
