-- What the two functions under the loop answer: how a block is opened for counting, and what a step over a row hands on.
use Rattle.std.specs.Prelude.{ℕ, ◌≡◌, List, replicate, Result, Ok, Err}
use Rattle.layout.specs.Res.{Res, ok, refuse, whether}
use Rattle.layout.specs.Limits.{max_key}
use Rattle.layout.specs.Check.{check}
use Rattle.layout.specs.Cursor.{ascending, open_block}
use Rattle.basics.specs.declared.ValueDeletable.TheVariants.{Tombstone}
use Rattle.step_in_place_v2.specs.Promise.{StepsInPlace}
use Rattle.place_v2.specs.Says.{view_in}
use Rattle.step_in_place_v2.specs.declared.Moved.{Moved}
use Rattle.step_in_place_v2.specs.declared.Moved.TheVariants.{Found, Done}
use Rattle.place_v2.specs.declared.Place.{Place}
use Rattle.basics.specs.declared.Refusal.{Refusal}
use Rattle.basics.specs.Answers.{says_verdict}
use Rattle.tally.specs.declared.Opening.{Opening}
use Rattle.tally.specs.declared.Passed.{Passed}

-- a refused block has no rows to count
abbrev pub rows_of : Res ℕ → ℕ
rows_of (ok n) = n
rows_of (refuse n) = 0

pub record OpensRows (b : List ℕ) (r : Opening) : Type 0 where
  pub verdict : says_verdict r.answer ≡ whether (check b)
  pub many : r.rows ≡ rows_of (check b)
  pub opens : {n : ℕ} → check b ≡ ok n → open_block b ascending ≡ ok (view_in r.start (replicate max_key 0))

-- what is handed on of a step that finds no row does not matter
abbrev pub passed_of : Place → Result Moved Refusal → Passed
passed_of p (Ok (Found q g n x)) = record { place = q; held = x.held }
passed_of p (Ok (Done q)) = record { place = p; held = Tombstone }
passed_of p (Err x) = record { place = p; held = Tombstone }

pub record PassesRow (p : Place) (key b out : List ℕ) (r : Passed) (key' out' : List ℕ) : Type 0 where
  pub moved : Result Moved Refusal
  pub steps : StepsInPlace p key b out moved key' out'
  pub hands_on : r ≡ passed_of p moved
