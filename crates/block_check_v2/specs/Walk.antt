-- How the walk over the rows stands before a region, and what the walk of a region leaves. These are the terms of the contracts of the private functions.
use Rattle.std.specs.Prelude.{ℕ, ◌≤◌, ◌<◌, ◌≡◌, List, length, take, Result, Option, Ok, Err, Some, None}
use Rattle.layout.specs.Res.{Res, ok, refuse}
use Rattle.layout.specs.Check.{passed_is, check_from}
use Rattle.layout.specs.Key.{no_rank}
use Rattle.layout.specs.Limits.{max_key}
use Rattle.layout.specs.Trailer.{Trailer, offset_at}
use Rattle.layout.specs.Laws.Check.{Checking}
use Rattle.basics.specs.Number.{number}
use Rattle.basics.specs.declared.Refusal.{Refusal}
use Rattle.block_check_v2.specs.declared.Passed.{Passed}

-- what the check answers once trailer and offsets are good
abbrev pub rows_of : List ℕ → Trailer → Res ℕ
rows_of b t = check_from t.size b t (passed_is 0 0 no_rank 0)

-- what is left of the check, from here on, answers what the whole does; and the lent bytes, which may be fewer than the longest key has, hold the carried key
pub record Goes (b : List ℕ) (t : Trailer) (at region rows seq : ℕ) (key : List ℕ) (len : ℕ) : Type 0 where
  pub long : List ℕ
  pub checking : Checking b t at region rows seq long len
  pub same : take len long ≡ take len key
  pub room : len ≤ length key
  pub few : rows ≤ at

-- before a region, or at the data's end
pub record Stands (b : List ℕ) (t : Trailer) (p : Passed) (key : List ℕ) : Type 0 where
  pub goes : Goes b t p.at p.region p.rows p.seq key p.key_len
  pub starts : p.at < t.size → (p.region < t.count) × (p.at ≡ offset_at b t p.region)

-- what the walk of a region leaves: it moved on, and stands so again; or the whole check is refused; or the longest key has no room
abbrev pub Leaves : List ℕ → Trailer → Passed → Result (Option Passed) Refusal → List ℕ → Type 0
Leaves b t p (Ok (Some q)) key = (p.at < q.at) × Stands b t q key
Leaves b t p (Ok None) key = length key < max_key
Leaves b t p (Err x) key = refuse (number x) ≡ rows_of b t

-- what the walk of all rows over so many lent bytes tells
abbrev pub Tries : List ℕ → Trailer → ℕ → Result (Option ℕ) Refusal → Type 0
Tries b t room (Ok (Some n)) = ok n ≡ rows_of b t
Tries b t room (Ok None) = room < max_key
Tries b t room (Err x) = refuse (number x) ≡ rows_of b t
