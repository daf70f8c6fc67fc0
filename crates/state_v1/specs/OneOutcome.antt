-- Each promise admits one outcome: two results that both keep it are equal.
use Rattle.std.specs.Prelude.{ℕ, ◌≡◌, Bool, [], Result, ⊤}
use Rattle.std.proofs.Common.{ap, ap₂, sym, ◌∙◌}
use Rattle.basics.specs.Answers.{says_verdict-one}
use Rattle.basics.specs.declared.Refusal.{Refusal}
use Rattle.state_v1.specs.declared.State.{State}
use Rattle.state_v1.specs.declared.NewState.{NewState}
use Rattle.state_v1.specs.Says.{state_from}
use Rattle.state_v1.specs.Promise.{MakesState, TellsStateEmpty}

pub new-state-settled : (size : ℕ) (r q : NewState) → MakesState size r → MakesState size q → r ≡ q
new-state-settled size r q a b =
    ap₂ (λ (x : State) (y : Result ⊤ Refusal). record { state = x; answer = y })
    (ap state_from (a.view [] ∙ sym (b.view [])))
    (says_verdict-one r.answer q.answer (a.answer ∙ sym b.answer))

pub is-empty-state-settled : (s : State) (r q : Bool) → TellsStateEmpty s r → TellsStateEmpty s q → r ≡ q
is-empty-state-settled s r q a b = a [] ∙ sym (b [])
