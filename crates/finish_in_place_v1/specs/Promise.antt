-- What each public function promises: equations to the definitions of `layout_v1`, that settle each number answered and each byte lent.
use Rattle.std.specs.Prelude.{ℕ, ◌≡◌, Bool, List, length, Result}
use Rattle.layout.specs.Res.{ok, guard}
use Rattle.layout_v1.specs.Builder.{Builder, build, block_after_of, state_tests}
use Rattle.basics.specs.Answers.{says_same}
use Rattle.basics.specs.declared.Refusal.{Refusal}
use Rattle.state_v1.specs.declared.State.{State}
use Rattle.state_v1.specs.Says.{view_from}

-- whether these numbers are refused as a state, whatever the first key's bytes are: 18
abbrev pub Judges : State → ℕ → ℕ → Bool → Type 0
Judges s data_len places_len r = (first : List ℕ) → state_tests (view_from s first) data_len places_len ≡ guard r 18 (ok tt)

pub record Ends (b : Builder) (bytes places : List ℕ) (r : Result ℕ Refusal) (bytes' : List ℕ) : Type 0 where
  pub answer : says_same r ≡ build b (length bytes) (length places)
  pub bytes_after : bytes' ≡ block_after_of (build b (length bytes) (length places)) b bytes places

-- whatever the first key's bytes are
abbrev pub Finishes : State → List ℕ → List ℕ → Result ℕ Refusal → List ℕ → Type 0
Finishes s bytes places r bytes' = (first : List ℕ) → Ends (view_from s first) bytes places r bytes'
