-- Each promise admits one outcome: two results, with the key bytes and the buffers that they leave, that both keep it are equal; but for the key bytes past the
-- length of the key that a moved cursor carries.
use Rattle.std.specs.Prelude.{ℕ, ◌≡◌, List, length, Result}
use Rattle.std.proofs.Common.{sym, ◌∙◌}
use Rattle.layout.specs.Res.{Res, ok, refuse}
use Rattle.basics.specs.declared.Refusal.{Refusal}
use Rattle.place_v2.specs.declared.Place.{Place}
use Rattle.step_in_place_v2.specs.declared.Moved.{Moved}
use Rattle.step_in_place_v2.specs.Lent.{next_in}
use Rattle.step_in_place_v2.specs.Says.{place_after, says_moved-one}
use Rattle.place_v2.specs.Says.{view_in}
use Rattle.step_in_place_v2.specs.Promise.{Kept, StepsInPlace}

pub kept-both : {A : Type 0} (want : Res A) (k l key : List ℕ) → Kept want k key → Kept want l key → Kept want k l
kept-both (ok x) k l key m n = tt
kept-both (refuse i) k l key m n = m ∙ sym n

-- answers with their places; the key bytes by the view, and after a refusal whole; and the key buffers
pub next_in_place-settled : (p : Place) (key b out : List ℕ) (r q : Result Moved Refusal) (k l ys zs : List ℕ) → StepsInPlace p key b out r k ys → StepsInPlace p key b out q l zs
    → (r ≡ q) × (view_in (place_after r p) k ≡ view_in (place_after q p) l) × Kept (next_in p key b (length out)) k l × (ys ≡ zs)
next_in_place-settled p key b out r q k l ys zs m n = (
  says_moved-one r q p k l (m.answer ∙ sym n.answer) (m.view ∙ sym n.view),
  m.view ∙ sym n.view,
  kept-both (next_in p key b (length out)) k l key m.whole n.whole,
  m.lent ∙ sym n.lent,
)
