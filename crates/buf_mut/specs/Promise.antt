-- What each public function promises: equations to the definitions of `layout`, that settle each number answered and each byte lent.
use Rattle.std.specs.Prelude.{ℕ, ◌≡◌, List, length, Result, Ok, Err}
use Rattle.layout.specs.Place.{put_at, after_put}
use Rattle.basics.specs.Answers.{says_same}
use Rattle.basics.specs.declared.Refusal.{Refusal}

-- a writer of the bytes w: its answer r, and the buffer that it leaves
pub record Puts (w buf : List ℕ) (at : ℕ) (r : Result ℕ Refusal) (buf' : List ℕ) : Type 0 where
  pub answer : says_same r ≡ put_at (length buf) at w
  pub bytes : buf' ≡ after_put buf at w

-- the place in a writer's answer; the other case is never asked
abbrev pub place_after : Result ℕ Refusal → ℕ
place_after (Ok n) = n
place_after (Err r) = 0

abbrev pub PlaceAfter : Result ℕ Refusal → ℕ → Type 0
PlaceAfter put r = r ≡ place_after put
