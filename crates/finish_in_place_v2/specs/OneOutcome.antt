-- Each promise admits one outcome: two results, with the buffers that they leave, that both keep it are equal.
use Rattle.std.specs.Prelude.{ℕ, ◌≡◌, refl, Bool, true, false, List, [], Result}
use Rattle.std.proofs.Common.{sym, ◌∙◌}
use Rattle.layout.specs.Res.{Res, ok, guard}
use Rattle.basics.specs.Answers.{apart, says_same-one}
use Rattle.basics.specs.declared.Refusal.{Refusal}
use Rattle.state_v2.specs.declared.State.{State}
use Rattle.finish_in_place_v2.specs.Promise.{Judges, Finishes}

-- a judge of a state, whatever the format, says one thing
pub judged_one : (x y : Bool) → ◌≡◌ {A = Res (Unit {0})} (guard x 18 (ok tt)) (guard y 18 (ok tt)) → x ≡ y
judged_one true true e = refl
judged_one true false e = absurd (apart (sym e))
judged_one false true e = absurd (apart e)
judged_one false false e = refl

pub is_bad_state-settled : (s : State) (data_len places_len : ℕ) (r q : Bool) → Judges s data_len places_len r → Judges s data_len places_len q → r ≡ q
is_bad_state-settled s data_len places_len r q a b = judged_one r q (sym (a []) ∙ b [])

pub build_in_place-settled : (s : State) (bytes places : List ℕ) (r q : Result ℕ Refusal) (ys zs : List ℕ) → Finishes s bytes places r ys → Finishes s bytes places q zs
    → (r ≡ q) × (ys ≡ zs)
build_in_place-settled s bytes places r q ys zs a b = (
  says_same-one r q ((a []).answer ∙ sym (b []).answer),
  (a []).bytes_after ∙ sym (b []).bytes_after,
)
