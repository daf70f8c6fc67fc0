-- What each public function promises: equations to the definitions of `layout`, that settle each number answered and each byte lent. A cursor is known by its view; the key
-- bytes that a refusal leaves are those that came.
use Rattle.std.specs.Prelude.{ℕ, ◌≡◌, List, length, Result}
use Rattle.layout.specs.Res.{Res, ok, refuse, bind}
use Rattle.layout.specs.Cursor.{Step, cursor_after, key_after}
use Rattle.basics.specs.declared.Refusal.{Refusal}
use Rattle.place_v2.specs.declared.Place.{Place}
use Rattle.step_in_place_v2.specs.declared.Moved.{Moved}
use Rattle.step_in_place_v2.specs.Lent.{next_in}
use Rattle.step_in_place_v2.specs.Says.{told, says_moved, place_after}
use Rattle.place_v2.specs.Says.{view_in}

-- beside a refusal, the bytes are those that came
abbrev pub Kept : {A : Type 0} → Res A → List ℕ → List ℕ → Type 0
Kept (ok x) key' key = Unit {0}
Kept (refuse n) key' key = key' ≡ key

-- a step that is wanted of a cursor: its answer r, the key bytes and the lent key buffer that it leaves
pub record Moves (want : Res Step) (p : Place) (key out : List ℕ) (r : Result Moved Refusal) (key' out' : List ℕ) : Type 0 where
  pub answer : says_moved r ≡ bind want told
  pub view : view_in (place_after r p) key' ≡ cursor_after want (view_in p key)
  pub whole : Kept want key' key
  pub lent : out' ≡ key_after want out

abbrev pub StepsInPlace : Place → List ℕ → List ℕ → List ℕ → Result Moved Refusal → List ℕ → List ℕ → Type 0
StepsInPlace p key b out r key' out' = Moves (next_in p key b (length out)) p key out r key' out'
