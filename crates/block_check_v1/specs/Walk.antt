-- How the walk over the rows stands before a row, and what a row leaves. These are the terms of the contracts of the private functions.
use Rattle.std.specs.Prelude.{ℕ, ◌+◌, ◌≡◌, List, Result, Ok, Err}
use Rattle.layout.specs.Res.{refuse}
use Rattle.layout.specs.Trailer.{Trailer}
use Rattle.layout_v1.specs.Laws.Check.{Checking, rows_of}
use Rattle.basics.specs.Number.{number}
use Rattle.basics.specs.declared.Refusal.{Refusal}
use Rattle.block_check_v1.specs.declared.Passed.{Passed}

-- what is left of the check, from row r on, answers what the whole does
abbrev pub Stands : List ℕ → Trailer → ℕ → Passed → Type 0
Stands b t r p = Checking b t r p.first_len p.shared p.suffix_at p.suffix_len p.seq

-- the walk stands so again past row r; or the whole check is refused
abbrev pub Leaves : List ℕ → Trailer → ℕ → Result Passed Refusal → Type 0
Leaves b t r (Ok q) = Stands b t (r + 1) q
Leaves b t r (Err x) = refuse (number x) ≡ rows_of b t
