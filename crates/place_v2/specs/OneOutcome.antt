-- Each promise admits one outcome: two results that both keep it are equal.
use Rattle.std.specs.Prelude.{ℕ, ◌≡◌, List, [], Bool, Result, ⊤}
use Rattle.std.proofs.Common.{ap₂, sym, ◌∙◌}
use Rattle.basics.specs.Answers.{says_same-one, says_verdict-one}
use Rattle.basics.specs.declared.IterationOrder.{IterationOrder}
use Rattle.basics.specs.declared.Refusal.{Refusal}
use Rattle.place_v2.specs.declared.Place.{Place}
use Rattle.place_v2.specs.declared.OpenedPlace.{OpenedPlace}
use Rattle.place_v2.specs.Says.{view_in-one}
use Rattle.place_v2.specs.Promise.{OpensPlace, TellsPlaceEmpty}

pub open_place-settled : (b : List ℕ) (order : IterationOrder) (r q : OpenedPlace) → OpensPlace b order r → OpensPlace b order q → r ≡ q
open_place-settled b order r q m n =
    ap₂ (λ (x : Place) (y : Result ⊤ Refusal). record { place = x; answer = y })
    (view_in-one r.place q.place [] [] (m.view [] ∙ sym (n.view [])))
    (says_verdict-one r.answer q.answer (m.answer ∙ sym n.answer))

pub is-empty-place-settled : (p : Place) (b : List ℕ) (r q : Result Bool Refusal) → TellsPlaceEmpty p b r → TellsPlaceEmpty p b q → r ≡ q
is-empty-place-settled p b r q m n = says_same-one r q (m [] ∙ sym (n []))
