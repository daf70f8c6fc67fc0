-- Each promise admits one outcome: two results, with the buffers that they leave, that both keep it are equal.
use Rattle.std.specs.Prelude.{ℕ, ◌≡◌, Bool, List, [], Result}
use Rattle.std.proofs.Common.{sym, ◌∙◌}
use Rattle.basics.specs.Answers.{says_same-one}
use Rattle.basics.specs.declared.Refusal.{Refusal}
use Rattle.finish_in_place_v2.specs.OneOutcome.{judged_one}
use Rattle.state_v1.specs.declared.State.{State}
use Rattle.finish_in_place_v1.specs.Promise.{Judges, Finishes}

pub is_bad_state-settled : (s : State) (data_len places_len : ℕ) (r q : Bool) → Judges s data_len places_len r → Judges s data_len places_len q → r ≡ q
is_bad_state-settled s data_len places_len r q a b = judged_one r q (sym (a []) ∙ b [])

pub build_in_place-settled : (s : State) (bytes places : List ℕ) (r q : Result ℕ Refusal) (ys zs : List ℕ) → Finishes s bytes places r ys → Finishes s bytes places q zs
    → (r ≡ q) × (ys ≡ zs)
build_in_place-settled s bytes places r q ys zs a b = (
  says_same-one r q ((a []).answer ∙ sym (b []).answer),
  (a []).bytes_after ∙ sym (b []).bytes_after,
)
