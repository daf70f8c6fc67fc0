-- The promise admits one outcome: two results, with the key bytes that they leave, that both keep it are equal; but for the key bytes past the length of the
-- key that a sought cursor carries.
use Rattle.std.specs.Prelude.{ℕ, ◌≡◌, List, Result}
use Rattle.std.proofs.Common.{sym, ◌∙◌}
use Rattle.basics.specs.declared.Refusal.{Refusal}
use Rattle.place_v2.specs.declared.Place.{Place}
use Rattle.step_in_place_v2.specs.OneOutcome.{kept-both}
use Rattle.step_in_place_v2.specs.Promise.{Kept}
use Rattle.place_v2.specs.Says.{view_in}
use Rattle.seek_in_place_v2.specs.declared.Found.{Found}
use Rattle.seek_in_place_v2.specs.Lent.{seek_in}
use Rattle.seek_in_place_v2.specs.Promise.{SeeksInPlace}
use Rattle.seek_in_place_v2.specs.Says.{place_found, says_found-one}

-- answers with their places; the key bytes by the view, and after a refusal whole
pub seek_in_place-settled : (p : Place) (key b target : List ℕ) (r q : Result Found Refusal) (k l : List ℕ) → SeeksInPlace p key b target r k → SeeksInPlace p key b target q l
    → (r ≡ q) × (view_in (place_found r p) k ≡ view_in (place_found q p) l) × Kept (seek_in p key b target) k l
seek_in_place-settled p key b target r q k l m n = (
  says_found-one r q p k l (m.answer ∙ sym n.answer) (m.view ∙ sym n.view),
  m.view ∙ sym n.view,
  kept-both (seek_in p key b target) k l key m.whole n.whole,
)
