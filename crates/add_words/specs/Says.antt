-- What the private function leaves, by the case of the answer that it is given: a code, and lent words.
use Rattle.std.specs.Prelude.{ℕ, ◌≡◌, List, [], Result, Ok, Err}
use Rattle.basics.specs.Number.{number}
use Rattle.basics.specs.declared.Refusal.{Refusal}
use Rattle.state_v2.specs.Says.{view_from}
use Rattle.state_v2.specs.declared.State.{State}
use Rattle.row_words.specs.Words.{builder_words}

abbrev pub grown_code : Result State Refusal → ℕ
grown_code (Ok t) = 0
grown_code (Err x) = number x

abbrev pub grown_words : Result State Refusal → List ℕ → List ℕ
grown_words (Ok t) ws = builder_words (view_from t [])
grown_words (Err x) ws = ws

pub record PutsGrown (g : Result State Refusal) (ws : List ℕ) (code : ℕ) (ws' : List ℕ) : Type 0 where
  pub answer : code ≡ grown_code g
  pub state : ws' ≡ grown_words g ws
