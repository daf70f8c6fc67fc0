-- What the seek promises: equations to the definitions of `layout`, that settle each number answered and each byte lent. A cursor is known by its view; the key
-- bytes that a refusal leaves are those that came.
use Rattle.std.specs.Prelude.{ℕ, ◌≡◌, List, Result}
use Rattle.layout.specs.Res.{Res, bind}
use Rattle.layout.specs.Seek.{Sought, sought_after}
use Rattle.basics.specs.declared.Refusal.{Refusal}
use Rattle.place_v2.specs.declared.Place.{Place}
use Rattle.step_in_place_v2.specs.Promise.{Kept}
use Rattle.place_v2.specs.Says.{view_in}
use Rattle.seek_in_place_v2.specs.declared.Found.{Found}
use Rattle.seek_in_place_v2.specs.Lent.{seek_in}
use Rattle.seek_in_place_v2.specs.Says.{reported, says_found, place_found}

-- a seek that is wanted of a cursor: its answer r, and the key bytes that it leaves
pub record Finds (want : Res Sought) (p : Place) (key : List ℕ) (r : Result Found Refusal) (key' : List ℕ) : Type 0 where
  pub answer : says_found r ≡ bind want reported
  pub view : view_in (place_found r p) key' ≡ sought_after want (view_in p key)
  pub whole : Kept want key' key

abbrev pub SeeksInPlace : Place → List ℕ → List ℕ → List ℕ → Result Found Refusal → List ℕ → Type 0
SeeksInPlace p key b target r key' = Finds (seek_in p key b target) p key r key'
