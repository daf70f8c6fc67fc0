-- What each public function promises: equations to the definitions of `layout_v1`, that settle each number answered.
use Rattle.std.specs.Prelude.{ℕ, ◌≡◌, Bool, List}
use Rattle.layout.specs.Res.{Res, whether}
use Rattle.layout_v1.specs.Builder.{Builder, new_builder, built, has_no_rows}
use Rattle.basics.specs.Answers.{says_verdict}
use Rattle.state_v1.specs.declared.State.{State}
use Rattle.state_v1.specs.declared.NewState.{NewState}
use Rattle.state_v1.specs.Says.{view_from}

-- the builder that is wanted, or beside a refusal the zero one, whatever bytes its first key lies in
pub record MakesStateAs (want : Res Builder) (r : NewState) : Type 0 where
  pub answer : says_verdict r.answer ≡ whether want
  pub view : (first : List ℕ) → view_from r.state first ≡ built want

abbrev pub MakesState : ℕ → NewState → Type 0
MakesState size r = MakesStateAs (new_builder size) r

-- whatever the first key's bytes are
abbrev pub TellsStateEmpty : State → Bool → Type 0
TellsStateEmpty s r = (first : List ℕ) → r ≡ has_no_rows (view_from s first)
