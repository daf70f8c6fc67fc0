-- What the contracts and the theorems say by the laws of `Search`: definitions.
use Rattle.std.specs.Prelude.{ℕ, suc, ◌+◌, ◌-◌, ◌^◌, ◌<◌, ◌≤◌, ◌≡◌, Bool}
use Rattle.std.proofs.Math.Bool.{true, false}
use Rattle.layout.specs.Res.{Res, ok, bind}
use Rattle.layout.specs.Seek.{Found, found_is, search}

abbrev pub counted : ℕ → Found → Res Found
counted reads f = ok (found_is f.place (reads + f.reads))

unfoldable pub search_on : (ℕ → Res Bool) → ℕ → ℕ → ℕ → Res Found
search_on is_below low high reads = bind (search is_below low high) (counted reads)

pub record Closed (is_below : ℕ → Res Bool) (low high : ℕ) (r : Found) : Type 0 where
  pub from : low ≤ r.place
  pub to : r.place ≤ high
  pub before : (i : ℕ) → suc i ≡ r.place → low ≤ i → is_below i ≡ ok true
  pub here : r.place < high → is_below r.place ≡ ok false
  pub count : (k : ℕ) → high - low < 2 ^ k → r.reads ≤ k
