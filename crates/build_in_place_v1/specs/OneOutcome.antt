-- Each promise admits one outcome: two results, with the buffers that they leave, that both keep it are equal.
use Rattle.std.specs.Prelude.{ℕ, ◌≡◌, List, Result, ⊤}
use Rattle.std.proofs.Common.{ap₂, sym, ◌∙◌}
use Rattle.layout.specs.Key.{Key}
use Rattle.basics.specs.Answers.{says_verdict-one}
use Rattle.basics.specs.declared.Refusal.{Refusal}
use Rattle.row_flags.specs.declared.RowFields.{RowFields}
use Rattle.state_v1.specs.declared.State.{State}
use Rattle.build_in_place_v1.specs.declared.Grown.{Grown}
use Rattle.build_in_place_v1.specs.Promise.{FitsInPlace, AddsInPlace}

pub would-fit_in_place-settled : (s : State) (first : List ℕ) (data_len places_len : ℕ) (key : Key) (value : List ℕ) (row : RowFields) (r q : Result ⊤ Refusal)
    → FitsInPlace s first data_len places_len key value row r → FitsInPlace s first data_len places_len key value row q → r ≡ q
would-fit_in_place-settled s first data_len places_len key value row r q a b = says_verdict-one r q (a ∙ sym b)

pub add_in_place-settled : (s : State) (first bytes places : List ℕ) (key : Key) (value : List ℕ) (row : RowFields) (r q : Grown) (ls ks ys zs os ps : List ℕ)
    → AddsInPlace s first bytes places key value row r ls ys os → AddsInPlace s first bytes places key value row q ks zs ps
    → (r ≡ q) × (ls ≡ ks) × (ys ≡ zs) × (os ≡ ps)
add_in_place-settled s first bytes places key value row r q ls ks ys zs os ps a b = (
  ap₂ (λ (x : State) (y : Result ⊤ Refusal). record { state = x; answer = y })
      (a.state ∙ sym b.state)
      (says_verdict-one r.answer q.answer (a.answer ∙ sym b.answer)),
  a.first-after ∙ sym b.first-after,
  a.bytes_after ∙ sym b.bytes_after,
  a.places-after ∙ sym b.places-after,
)
