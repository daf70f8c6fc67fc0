-- What each public function promises: equations to the definitions of `layout`, that settle each number answered. A cursor is known by its view.
use Rattle.std.specs.Prelude.{ℕ, ◌≡◌, List, Bool, Result}
use Rattle.layout.specs.Res.{Res, whether}
use Rattle.layout.specs.Cursor.{Direction, Cursor, cursor_or, open_block, is_empty}
use Rattle.basics.specs.Answers.{says_same, says_verdict}
use Rattle.basics.specs.Says.{says_order}
use Rattle.basics.specs.declared.IterationOrder.{IterationOrder}
use Rattle.basics.specs.declared.Refusal.{Refusal}
use Rattle.place_v2.specs.declared.Place.{Place}
use Rattle.place_v2.specs.declared.OpenedPlace.{OpenedPlace}
use Rattle.place_v2.specs.Says.{view_in}

-- the cursor that is wanted, and beside a refusal one in region 0 at 0, whatever bytes its key lies in
pub record Opens (d : Direction) (want : Res Cursor) (r : OpenedPlace) : Type 0 where
  pub answer : says_verdict r.answer ≡ whether want
  pub view : (key : List ℕ) → view_in r.place key ≡ cursor_or d want

abbrev pub OpensPlace : List ℕ → IterationOrder → OpenedPlace → Type 0
OpensPlace b order r = Opens (says_order order) (open_block b (says_order order)) r

-- the bytes of the key tell nothing
abbrev pub TellsPlaceEmpty : Place → List ℕ → Result Bool Refusal → Type 0
TellsPlaceEmpty p b r = (key : List ℕ) → says_same r ≡ is_empty (view_in p key) b
